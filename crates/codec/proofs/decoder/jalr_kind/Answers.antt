use mathlib.Core.List.{[], ◌∷◌}
use native.Mathlib.Omega.{arith}
use Rattle.bits.proofs.Tests.{equal_but}
use Rattle.isa.specs.InstructionSet.{rows, fits, first_fit}
use Rattle.isa.specs.Inner.{kind_of, kind_in}
use Rattle.codec.proofs.decoder.jalr_kind.Goals as goal

pub returns-then-b-eq9 : goal.returns-then-b-eq9
unfolding rows fits first_fit kind_of kind_in
returns-then-b-eq9 c = rw c.if-b-eq9.true

pub returns-else-b-eq9 : goal.returns-else-b-eq9
unfolding rows fits first_fit kind_of kind_in
returns-else-b-eq9 c = equal_but (λ x. 15) (kind_in 0x12 11) (9 ∷ []) 0 32 tt c.args.b (omega arith) (omega arith) (tt, c.if-b-eq9.false)
