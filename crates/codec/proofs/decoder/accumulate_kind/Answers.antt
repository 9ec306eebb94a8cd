use mathlib.Core.List.{[], ◌∷◌}
use native.Mathlib.Omega.{arith}
use Rattle.bits.proofs.Tests.{equal_but}
use Rattle.isa.specs.InstructionSet.{rows, fits, first_fit}
use Rattle.isa.specs.Inner.{kind_of, kind_in}
use Rattle.codec.proofs.decoder.accumulate_kind.Goals as goal

pub returns-in-1 : goal.returns-in-1
unfolding rows fits first_fit kind_of kind_in
returns-in-1 c = rw c.in-1.is

pub returns-in-2 : goal.returns-in-2
unfolding rows fits first_fit kind_of kind_in
returns-in-2 c = rw c.in-2.is

pub returns-in_default : goal.returns-in_default
unfolding rows fits first_fit kind_of kind_in
returns-in_default c = equal_but (λ x. 1) (kind_in 0x31 0) (2 ∷ 1 ∷ []) 0 16 tt c.args.x (omega arith) (omega arith) c.in_default.in_default-own.rest
