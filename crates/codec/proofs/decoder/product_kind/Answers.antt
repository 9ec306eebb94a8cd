use mathlib.Core.Bool.{not}
use mathlib.Core.List.{List, [], ◌∷◌}
use Prim.Native.Nat.{ℕ, ◌%◌}
use native.Mathlib.Omega.{arith}
use lib.Dec.{eqb}
use borrow.Author.Tests.{eq-eqb}
use Rattle.bits.proofs.Tests.{equal_when, member, none_member}
use Rattle.isa.specs.InstructionSet.{rows, fits, first_fit}
use Rattle.isa.specs.Inner.{kind_of, kind_in}
use Rattle.codec.proofs.decoder.product_kind.Goals as goal

pub returns-in-6 : goal.returns-in-6
unfolding rows fits first_fit kind_of kind_in
returns-in-6 c = equal_when (λ x. eqb (x % 16) 6) (λ x. 80) (kind_in 0x38 0) 768 256 tt c.args.x (omega arith) (omega arith) (eq-eqb _ _ c.in-6.is)

pub returns-in-9 : goal.returns-in-9
unfolding rows fits first_fit kind_of kind_in
returns-in-9 c = equal_when (λ x. eqb (x % 16) 9) (λ x. 83) (kind_in 0x38 0) 768 256 tt c.args.x (omega arith) (omega arith) (eq-eqb _ _ c.in-9.is)

pub returns-in-10 : goal.returns-in-10
unfolding rows fits first_fit kind_of kind_in
returns-in-10 c = equal_when (λ x. eqb (x % 16) 10) (λ x. 84) (kind_in 0x38 0) 768 256 tt c.args.x (omega arith) (omega arith) (eq-eqb _ _ c.in-10.is)

pub returns-in-11 : goal.returns-in-11
unfolding rows fits first_fit kind_of kind_in
returns-in-11 c = equal_when (λ x. eqb (x % 16) 11) (λ x. 82) (kind_in 0x38 0) 768 256 tt c.args.x (omega arith) (omega arith) (eq-eqb _ _ c.in-11.is)

pub returns-in_default : goal.returns-in_default
unfolding rows fits first_fit kind_of kind_in
returns-in_default c =
    let x = c.args.x in
    let others : List ℕ = 11 ∷ 10 ∷ 9 ∷ 6 ∷ [] in
    equal_when (λ x. not (member (x % 16) others)) (λ x. 1) (kind_in 0x38 0) 768 256 tt x (omega arith) (omega arith)
    (rw (none_member (x % 16) others c.in_default.in_default-own.rest))
