-- Helper of the code. The forms in which it hands an effect on to its commit; the papers' effects are Effect.antt.
use Rattle.std.specs.Prelude.{is_some}
use Rattle.effect.specs.Effect.{advances, halting, faults, raises_range, jumping, returning, linking, saving, unlinking, accumulating, reading_accumulator}
use Rattle.effect.specs.declared.types.Inputs.{Inputs}
use Rattle.effect.specs.declared.types.Effect.{Effect}
use Rattle.effect.specs.declared.types.Written.{Written}
use Rattle.effect.specs.declared.types.Action.{Action}
use Rattle.effect.specs.declared.types.Action.TheVariants.{Advance, Jump, Save, Fault, RaiseRange, Return, Halt, LoadLinked, SaveLinked, Accumulate, ReadAccumulator}

-- the effect of an instruction that writes w and goes on
abbrev pub goes_on : Inputs → Written → Effect
goes_on x w = advances x w.place w.value w.sr

-- the effect of an action of an instruction that reads x
unfoldable pub effect_by : Inputs → Action → Effect
effect_by x (Advance w) = goes_on x w
effect_by x (Jump j) = jumping x j.place j.value j.target
effect_by x (Save s) = saving x s
effect_by x (Fault f) = faults x f.cause f.eear
effect_by x (RaiseRange w) = raises_range x w.place w.value w.sr
effect_by x Return = returning x
effect_by x Halt = halting x
effect_by x (LoadLinked l) = linking x l.place l.value l.address
effect_by x (SaveLinked s) = unlinking x (is_some s) s
effect_by x (Accumulate m) = accumulating x 0 0 m
effect_by x ReadAccumulator = reading_accumulator x
