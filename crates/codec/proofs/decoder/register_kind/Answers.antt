use mathlib.Core.Bool.{not, ◌&&◌}
use mathlib.Core.List.{List, [], ◌∷◌}
use Prim.Native.Nat.{ℕ, ◌+◌, ◌/◌, ◌%◌}
use native.Mathlib.Omega.{arith}
use lib.Dec.{eqb, leb}
use borrow.Author.Tests.{eq-eqb, ne_eqb, le-leb}
use Rattle.bits.proofs.Tests.{equal_but, equal_when, member, none_member}
use Rattle.isa.specs.InstructionSet.{rows, fits, first_fit}
use Rattle.isa.specs.Inner.{kind_of, kind_in}
use Rattle.codec.proofs.decoder.register_kind.Goals as goal

pub returns-then-high-ge12 : goal.returns-then-high-ge12
returns-then-high-ge12 c = c.product_kind.ensures

pub returns-then-high-ge8 : goal.returns-then-high-ge8
unfolding rows fits first_fit kind_of kind_in
returns-then-high-ge8 c = equal_but (λ x. 1) (kind_in 0x38 0) [] 512 256 tt c.args.x (omega arith) (omega arith) tt

pub returns-then-low-eq15 : goal.returns-then-low-eq15
unfolding rows fits first_fit kind_of kind_in
returns-then-low-eq15 c = equal_when (λ x. eqb (x % 16) 15) (λ x. 66) (kind_in 0x38 0) 256 256 tt c.args.x (omega arith) (omega arith) (eq-eqb _ _ c.if-low-eq15.true)

pub returns-else-low-eq15 : goal.returns-else-low-eq15
unfolding rows fits first_fit kind_of kind_in
returns-else-low-eq15 c = equal_when (λ x. not (eqb (x % 16) 15)) (λ x. 1) (kind_in 0x38 0) 256 256 tt c.args.x (omega arith) (omega arith) (simp (ne_eqb _ _ c.if-low-eq15.false))

pub returns-in-8 : goal.returns-in-8
unfolding rows fits first_fit kind_of kind_in
returns-in-8 c = equal_when (λ x. eqb (x % 16) 8) (λ x. 54 + x / 64) (kind_in 0x38 0) 0 256 tt c.args.x (omega arith) (omega arith) (eq-eqb _ _ c.in-8.is)

pub returns-in-12 : goal.returns-in-12
unfolding rows fits first_fit kind_of kind_in
returns-in-12 c = equal_when (λ x. eqb (x % 16) 12) (λ x. 58 + x / 64) (kind_in 0x38 0) 0 256 tt c.args.x (omega arith) (omega arith) (eq-eqb _ _ c.in-12.is)

pub returns-then-high-lt2 : goal.returns-then-high-lt2
unfolding rows fits first_fit kind_of kind_in
returns-then-high-lt2 c =
    let x = c.args.x in
    equal_when (λ x. eqb (x % 16) 13) (λ x. 62 + x / 64) (kind_in 0x38 0) 0 128 tt x (omega arith) (omega arith) (eq-eqb _ _ c.in-13.is)

pub returns-else-high-lt2 : goal.returns-else-high-lt2
unfolding rows fits first_fit kind_of kind_in
returns-else-high-lt2 c = equal_when (λ x. eqb (x % 16) 13) (λ x. 1) (kind_in 0x38 0) 128 128 tt c.args.x (omega arith) (omega arith) (eq-eqb _ _ c.in-13.is)

pub returns-in-14 : goal.returns-in-14
unfolding rows fits first_fit kind_of kind_in
returns-in-14 c = equal_when (λ x. eqb (x % 16) 14) (λ x. 64) (kind_in 0x38 0) 0 256 tt c.args.x (omega arith) (omega arith) (eq-eqb _ _ c.in-14.is)

pub returns-in-15 : goal.returns-in-15
unfolding rows fits first_fit kind_of kind_in
returns-in-15 c = equal_when (λ x. eqb (x % 16) 15) (λ x. 65) (kind_in 0x38 0) 0 256 tt c.args.x (omega arith) (omega arith) (eq-eqb _ _ c.in-15.is)

pub returns-in-0-to-5 : goal.returns-in-0-to-5
unfolding rows fits first_fit kind_of kind_in
returns-in-0-to-5 c =
    let x = c.args.x in
    equal_when (λ x. leb (x % 16) 5) (λ x. 48 + x % 16) (kind_in 0x38 0) 0 256 tt x (omega arith) (omega arith) (le-leb (x % 16) 5 (omega arith))

pub returns-in_default : goal.returns-in_default
unfolding rows fits first_fit kind_of kind_in
returns-in_default c =
    let x = c.args.x in
    let others : List ℕ = 15 ∷ 14 ∷ 13 ∷ 12 ∷ 8 ∷ [] in
    equal_when (λ x. leb 6 (x % 16) && not (member (x % 16) others)) (λ x. 1) (kind_in 0x38 0) 0 256 tt x (omega arith) (omega arith)
    (rw (le-leb 6 (x % 16) (omega arith), none_member (x % 16) others c.in_default.in_default-own.rest))
