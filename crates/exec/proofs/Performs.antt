-- An action that is what its kind means can be committed. Assumes nothing.
use mathlib.Core.List.{List}
use mathlib.Core.Path.{◌≡◌, subst}
use Prim.Native.Nat.{ℕ, ◌<◌}
use lib.ListN.{length}
use Rattle.std.specs.Prelude.{Option}
use Rattle.isa.proofs.Registers.{fields_registers}
use Rattle.effect.specs.State.{state_words}
use Rattle.effect.specs.Effect.{advances}
use Rattle.effect.specs.Inner.{effect_by, goes_on}
use Rattle.effect.specs.declared.types.Inputs.{Inputs}
use Rattle.effect.specs.declared.types.Written.{Written}
use Rattle.effect.specs.declared.types.Action.{Action}
use Rattle.effect.specs.declared.types.Action.TheVariants.{Advance}
use Rattle.effect.specs.Board.{Board}
use Rattle.effect.specs.declared.types.Effect.{Effect}
use Rattle.effect.specs.declared.types.Store.{Store}
use Rattle.commit.specs.Inner.{entry_inputs, action_effect, Storable, Fits, Commits}
use Rattle.commit.specs.declared.Done.{Done}
use Rattle.commit.proofs.Commits.{fits_as, performed_as}
use Rattle.semantics.specs.Meaning.{meaning}
use Rattle.semantics.proofs.Groups.{is_branch, is_nop_movhi, is_control, is_load, is_add_immediate, is_immediate, is_compare_immediate, is_store, is_arithmetic, is_logic, is_compare, is_cache, is_product}
use Rattle.lawful.specs.Inner.{Sound, SoundStore, stores_none, stores_some}
use Rattle.lawful.proofs.Sound.{meaning_sound}
use Rattle.exec.specs.Inner.{Performs}

-- what each group of kinds means
pub ruleset meant = (
  is_branch,
  is_nop_movhi,
  is_control,
  is_load,
  is_add_immediate,
  is_immediate,
  is_compare_immediate,
  is_store,
  is_arithmetic,
  is_logic,
  is_compare,
  is_cache,
  is_product,
)

-- what a sound effect writes can be committed
sound_storable : {board : Board} {len : ℕ} {s : Option Store} → SoundStore board len s → Storable len s
sound_storable stores_none = tt
sound_storable (stores_some w) = w.inside

sound_fits : {board : Board} {len : ℕ} {e : Effect} → Sound board len e → Fits len e
sound_fits h = record { place_lt = h.place_lt; storable = sound_storable h.sound_store }

-- an action that is what its kind means, on inputs that the code read
module _ (board : Board) (mem own : List ℕ) (core kind entry : ℕ) {x : Inputs} (p : x ≡ entry_inputs own core entry) where
  acts : (a : Action) → effect_by x a ≡ meaning board mem kind x → action_effect own core entry a ≡ meaning board mem kind (entry_inputs own core entry)
  acts a h = subst (λ (z : Inputs). effect_by z a ≡ meaning board mem kind z) p h

  pub committable : (a : Action) → effect_by x a ≡ meaning board mem kind x → Fits (length mem) (action_effect own core entry a)
  unfolding entry_inputs
  committable a h = fits_as (acts a h) (sound_fits (meaning_sound board mem (entry_inputs own core entry) (fields_registers entry).d kind))

  -- the same of what is written by an instruction that goes on
  pub writable : (w : Written) → goes_on x w ≡ meaning board mem kind x → w.place < state_words
  unfolding effect_by advances
  writable w h = (committable (Advance w) h).place_lt

  -- what commits it performs the kind
  pub performs : (a : Action) → effect_by x a ≡ meaning board mem kind x → {mem' own' : List ℕ} {r : Done} → Commits board.vectors mem own core entry a mem' own' r
      → Performs board mem own core kind entry mem' own' r
  performs a h c = performed_as (acts a h) c
