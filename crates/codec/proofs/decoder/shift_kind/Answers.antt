use mathlib.Core.List.{[]}
use Prim.Native.Nat.{◌+◌}
use native.Mathlib.Omega.{arith}
use Rattle.bits.proofs.Tests.{equal_but}
use Rattle.isa.specs.InstructionSet.{rows, fits, first_fit}
use Rattle.isa.specs.Inner.{kind_of, kind_in}
use Rattle.codec.proofs.decoder.shift_kind.Goals as goal

pub returns : goal.returns
unfolding rows fits first_fit kind_of kind_in
returns c = equal_but (λ x. 29 + x) (kind_in 0x2e 6) [] 0 4 tt c.args.x (omega arith) (omega arith) tt
