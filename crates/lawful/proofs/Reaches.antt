-- A fact about an access, from what holds in each of its cases. Assumes nothing.
use mathlib.Core.Option.{Option, none, some}
use mathlib.Core.Path.{◌≡◌, refl}
use Prim.Native.Nat.{ℕ}
use Rattle.isa.specs.declared.vectors.Cause.{Cause}
use Rattle.memory.specs.Memory.{access}
use Rattle.effect.specs.Effect.{faults}
use Rattle.effect.specs.declared.types.Inputs.{Inputs}
use Rattle.effect.specs.declared.types.Effect.{Effect}
use Rattle.action.specs.Operations.{effective_address, granted, reaches}

-- an access is granted, or its instruction faults
pub reaches_law : (P : Effect → Type 0) (x : Inputs) (n limit len : ℕ) {e : Effect} → (access n limit len (effective_address x) ≡ none → P e)
    → ((cause : Cause) (eear : ℕ) → P (faults x cause eear)) → P (reaches x n limit len e)
reaches_law P x n limit len {e} p q = go (access n limit len (effective_address x)) refl
  where
    go : (o : Option Cause) → access n limit len (effective_address x) ≡ o → P (granted x o (effective_address x) e)
    go none h = p h
    go (some cause) h = q cause (effective_address x)
