use mathlib.Core.List.{List, [], ◌∷◌}
use mathlib.Core.Path.{refl, sym, ap, ◌∙◌}
use Prim.Native.Nat.{ℕ, ◌-◌, ◌/◌, ◌%◌, ◌^◌}
use native.Mathlib.Omega.{arith}
use native.Mathlib.Nat.{div-one}
use lib.Dec.{eqb}
use borrow.Author.Tests.{eq-eqb, ne_eqb}
use Rattle.std.specs.Prelude.{if◌then◌else◌}
use Rattle.bits.proofs.Tests.{within_but}
use Rattle.isa.specs.Groups.{first_compare_immediate, first_compare}
use Rattle.isa.specs.InstructionSet.{rows, fits, first_fit}
use Rattle.isa.specs.Inner.{kind_of, kind_in, compare_kind}
use Rattle.isa.proofs.Rows.{by_opcode, by_bits, by_field, settles}
use Rattle.codec.proofs.decoder.kind_of.Goals as goal

-- the single opcodes of the match, the last arm's first

abbrev keys : List ℕ
keys =
    0x3e ∷ 0x39 ∷ 0x38 ∷ 0x33 ∷ 0x31 ∷ 0x30 ∷ 0x2f ∷ 0x2e ∷ 0x2d ∷ 0x2c ∷ 0x1b ∷ 0x13 ∷ 0x12 ∷ 0x11 ∷ 0x09 ∷ 0x08 ∷ 0x06 ∷ 0x05 ∷ 0x04 ∷ 0x03 ∷ 0x01 ∷ 0x00 ∷ []

pub returns-in-0 : goal.returns-in-0
unfolding rows fits first_fit kind_of kind_in
returns-in-0 c = by_opcode c.args.w 0x00 2 c.in-0.is tt

pub returns-in-1 : goal.returns-in-1
unfolding rows fits first_fit kind_of kind_in
returns-in-1 c = by_opcode c.args.w 0x01 3 c.in-1.is tt

pub returns-in-3 : goal.returns-in-3
unfolding rows fits first_fit kind_of kind_in
returns-in-3 c = by_opcode c.args.w 0x03 4 c.in-3.is tt

pub returns-in-4 : goal.returns-in-4
unfolding rows fits first_fit kind_of kind_in
returns-in-4 c = by_opcode c.args.w 0x04 5 c.in-4.is tt

pub returns-then-w-eq1 : goal.returns-then-w-eq1
unfolding rows fits first_fit kind_of kind_in
returns-then-w-eq1 c = by_field c.args.w 0x05 24 2 (λ x. if eqb x 1 then 6 else 1) 6 c.in-5.is tt tt (simp (eq-eqb _ _ c.if-w-eq1.true))

pub returns-else-w-eq1 : goal.returns-else-w-eq1
unfolding rows fits first_fit kind_of kind_in
returns-else-w-eq1 c = by_field c.args.w 0x05 24 2 (λ x. if eqb x 1 then 6 else 1) 1 c.in-5.is tt tt (simp (ne_eqb _ _ c.if-w-eq1.false))

pub returns-then-w-eq0 : goal.returns-then-w-eq0
unfolding rows fits first_fit kind_of kind_in
returns-then-w-eq0 c = by_field c.args.w 0x06 16 1 (λ x. if eqb x 0 then 7 else 88) 7 c.in-6.is tt tt (simp (eq-eqb _ _ c.if-w-eq0.true))

pub returns-else-w-eq0 : goal.returns-else-w-eq0
unfolding rows fits first_fit kind_of kind_in
returns-else-w-eq0 c = by_field c.args.w 0x06 16 1 (λ x. if eqb x 0 then 7 else 88) 88 c.in-6.is tt tt (simp (ne_eqb _ _ c.if-w-eq0.false))

pub returns-in-8 : goal.returns-in-8
unfolding rows
returns-in-8 c = by_bits c.args.w 0x08 16 10 _ c.in-8.is tt c.system_kind.ensures

pub returns-in-9 : goal.returns-in-9
unfolding rows fits first_fit kind_of kind_in
returns-in-9 c = by_opcode c.args.w 0x09 13 c.in-9.is tt

pub returns-in-17 : goal.returns-in-17
unfolding rows fits first_fit kind_of kind_in
returns-in-17 c = by_opcode c.args.w 0x11 14 c.in-17.is tt

pub returns-in-18 : goal.returns-in-18
unfolding rows
returns-in-18 c =
    let s = c in
    by_bits s.args.w 0x12 11 5 _ s.in-18.is tt (c.jalr_kind.ensures ∙ ap (kind_in 0x12 11) c.number.ensures.0)

pub returns-in-19 : goal.returns-in-19
unfolding rows fits first_fit kind_of kind_in
returns-in-19 c = by_opcode c.args.w 0x13 85 c.in-19.is tt

pub returns-in-27 : goal.returns-in-27
unfolding rows fits first_fit kind_of kind_in
returns-in-27 c = by_opcode c.args.w 0x1b 16 c.in-27.is tt

pub returns-in-44 : goal.returns-in-44
unfolding rows fits first_fit kind_of kind_in
returns-in-44 c = by_opcode c.args.w 0x2c 81 c.in-44.is tt

pub returns-in-45 : goal.returns-in-45
unfolding rows fits first_fit kind_of kind_in
returns-in-45 c = by_opcode c.args.w 0x2d 28 c.in-45.is tt

pub returns-in-46 : goal.returns-in-46
unfolding rows
returns-in-46 c = by_bits c.args.w 0x2e 6 2 _ c.in-46.is tt c.shift_kind.ensures

pub returns-in-47 : goal.returns-in-47
unfolding rows fits first_fit kind_of kind_in compare_kind
returns-in-47 c = by_field c.args.w 0x2f 21 5 (compare_kind first_compare_immediate) _ c.in-47.is tt tt c.compare_kind.ensures

pub returns-in-48 : goal.returns-in-48
unfolding rows fits first_fit kind_of kind_in
returns-in-48 c = by_opcode c.args.w 0x30 43 c.in-48.is tt

pub returns-in-49 : goal.returns-in-49
unfolding rows
returns-in-49 c =
    let w = c.args.w in
    by_bits w 0x31 0 4 _ c.in-49.is tt (c.accumulate_kind.ensures ∙ ap (λ n. kind_in 0x31 0 (n % 2 ^ 4)) (sym (div-one w)))

pub returns-in-51 : goal.returns-in-51
unfolding rows fits first_fit kind_of kind_in
returns-in-51 c = by_opcode c.args.w 0x33 44 c.in-51.is tt

pub returns-in-56 : goal.returns-in-56
unfolding rows
returns-in-56 c =
    let w = c.args.w in
    by_bits w 0x38 0 10 _ c.in-56.is tt (c.register_kind.ensures ∙ ap (λ n. kind_in 0x38 0 (n % 2 ^ 10)) (sym (div-one w)))

pub returns-in-57 : goal.returns-in-57
unfolding rows fits first_fit kind_of kind_in compare_kind
returns-in-57 c = by_field c.args.w 0x39 21 5 (compare_kind first_compare) _ c.in-57.is tt tt c.compare_kind-in-57.ensures

pub returns-in-62 : goal.returns-in-62
unfolding rows
returns-in-62 c = by_bits c.args.w 0x3e 11 2 _ c.in-62.is tt c.cache_kind.ensures

pub returns-in-33-to-38 : goal.returns-in-33-to-38
unfolding rows fits first_fit kind_of kind_in
returns-in-33-to-38 c =
    let w = c.args.w in
    by_opcode w _ _ refl (within_but (λ o. settles o (o - 16)) [] 0x21 6 tt (w / 2 ^ 26) (omega arith) (omega arith) tt)

pub returns-in-39-to-43 : goal.returns-in-39-to-43
unfolding rows fits first_fit kind_of kind_in
returns-in-39-to-43 c =
    let w = c.args.w in
    by_opcode w _ _ refl (within_but (λ o. settles o (o - 16)) [] 0x27 5 tt (w / 2 ^ 26) (omega arith) (omega arith) tt)

pub returns-in-53-to-55 : goal.returns-in-53-to-55
unfolding rows fits first_fit kind_of kind_in
returns-in-53-to-55 c =
    let w = c.args.w in
    by_opcode w _ _ refl (within_but (λ o. settles o (o - 8)) [] 0x35 3 tt (w / 2 ^ 26) (omega arith) (omega arith) tt)

pub returns-in_default : goal.returns-in_default
unfolding rows fits first_fit kind_of kind_in
returns-in_default c =
    let w = c.args.w in
    by_opcode w _ 1 refl (within_but (λ o. settles o 1) keys 0x00 33 tt (w / 2 ^ 26) (omega arith) (omega arith) c.in_default.in_default-own.rest)

pub returns-in_default-2 : goal.returns-in_default-2
unfolding rows fits first_fit kind_of kind_in
returns-in_default-2 c =
    let w = c.args.w in
    by_opcode w _ 1 refl (within_but (λ o. settles o 1) keys 0x2c 9 tt (w / 2 ^ 26) (omega arith) (omega arith) c.in_default.in_default-own.rest)

pub returns-in_default-3 : goal.returns-in_default-3
unfolding rows fits first_fit kind_of kind_in
returns-in_default-3 c =
    let w = c.args.w in
    by_opcode w _ 1 refl (within_but (λ o. settles o 1) keys 0x38 8 tt (w / 2 ^ 26) (omega arith) (omega arith) c.in_default.in_default-own.rest)
