use mathlib.Core.List.{[], ◌∷◌}
use Prim.Native.Nat.{◌+◌}
use native.Mathlib.Omega.{arith}
use Rattle.bits.proofs.Tests.{equal_but}
use Rattle.isa.specs.InstructionSet.{rows, fits, first_fit}
use Rattle.isa.specs.Inner.{kind_of, kind_in}
use Rattle.codec.proofs.decoder.cache_kind.Goals as goal

pub returns-then-x-eq0 : goal.returns-then-x-eq0
unfolding rows fits first_fit kind_of kind_in
returns-then-x-eq0 c = rw c.if-x-eq0.true

pub returns-else-x-eq0 : goal.returns-else-x-eq0
unfolding rows fits first_fit kind_of kind_in
returns-else-x-eq0 c = equal_but (λ x. 76 + x) (kind_in 0x3e 11) (0 ∷ []) 0 4 tt c.args.x (omega arith) (omega arith) (tt, c.if-x-eq0.false)
