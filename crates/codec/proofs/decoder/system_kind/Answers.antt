use mathlib.Core.List.{[], ◌∷◌}
use native.Mathlib.Omega.{arith}
use Rattle.bits.proofs.Tests.{equal_but}
use Rattle.isa.specs.InstructionSet.{rows, fits, first_fit}
use Rattle.isa.specs.Inner.{kind_of, kind_in}
use Rattle.codec.proofs.decoder.system_kind.Goals as goal

pub returns-in-0 : goal.returns-in-0
unfolding rows fits first_fit kind_of kind_in
returns-in-0 c = rw c.in-0.is

pub returns-in-256 : goal.returns-in-256
unfolding rows fits first_fit kind_of kind_in
returns-in-256 c = rw c.in-256.is

pub returns-in-512 : goal.returns-in-512
unfolding rows fits first_fit kind_of kind_in
returns-in-512 c = rw c.in-512.is

pub returns-in-640 : goal.returns-in-640
unfolding rows fits first_fit kind_of kind_in
returns-in-640 c = rw c.in-640.is

pub returns-in-768 : goal.returns-in-768
unfolding rows fits first_fit kind_of kind_in
returns-in-768 c = rw c.in-768.is

pub returns-in_default : goal.returns-in_default
unfolding rows fits first_fit kind_of kind_in
returns-in_default c = equal_but (λ x. 1) (kind_in 0x08 16) (0x300 ∷ 0x280 ∷ 0x200 ∷ 0x100 ∷ 0x000 ∷ []) 0 1024 tt c.args.x (omega arith) (omega arith) c.in_default.in_default-own.rest
