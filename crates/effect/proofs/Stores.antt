-- What actions store. Assumes nothing.
use mathlib.Core.List.{List, [], ◌∷◌}
use mathlib.Core.Path.{◌≡◌, refl}
use Prim.Native.Nat.{ℕ}
use denote.Enum.Declared.{tag_of}
use types.Run.{OneOf, miss}
use Rattle.std.specs.Prelude.{None}
use Rattle.effect.specs.Effect.{advances, raises, no_store}
use Rattle.effect.specs.Inner.{effect_by}
use Rattle.effect.specs.declared.types.Inputs.{Inputs}
use Rattle.effect.specs.declared.types.Action.{Action}
use Rattle.effect.specs.declared.types.Action.TheVariants.{Advance, Jump, Save, Fault, RaiseRange, Return, Halt, LoadLinked, SaveLinked, Accumulate, ReadAccumulator}
use Rattle.effect.specs.contracts.types.Action.{the_type}

-- all but Save and SaveLinked
abbrev others : List ℕ
others = 0 ∷ 1 ∷ 3 ∷ 4 ∷ 5 ∷ 6 ∷ 7 ∷ 9 ∷ 10 ∷ []

pub stores_none : (x : Inputs) (a : Action) → OneOf others (tag_of the_type a) → no_store ≡ (effect_by x a).store
unfolding effect_by advances raises
stores_none x (Advance w) h = refl
stores_none x (Jump j) h = refl
stores_none x (Save s) h = absurd (miss others _ tt h)
stores_none x (Fault f) h = refl
stores_none x (RaiseRange w) h = refl
stores_none x Return h = refl
stores_none x Halt h = refl
stores_none x (LoadLinked l) h = refl
stores_none x (SaveLinked s) h = absurd (miss others _ tt h)
stores_none x (Accumulate m) h = refl
stores_none x ReadAccumulator h = refl

-- nor does l.swa without its link
pub unlinked_stores_none : (x : Inputs) → no_store ≡ (effect_by x (SaveLinked None)).store
unfolding effect_by
unlinked_stores_none x = refl
