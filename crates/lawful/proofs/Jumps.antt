-- A decoded jump or branch has a multiple of 4 for its immediate. Assumes nothing.
use mathlib.Core.Bool.{Bool, true, false, ◌&&◌, ◌||◌, not}
use mathlib.Core.Path.{◌≡◌, refl, ◌∙◌}
use Prim.Native.Nat.{ℕ, ◌*◌, ◌%◌, ◌^◌, ◌<◌}
use native.Mathlib.Omega.{arith}
use lib.Dec.{T, eqb, leb, ltb, eqb→eq}
use borrow.Author.Tests.{le-leb, lt-ltb}
use Rattle.bits.specs.Word.{extend}
use Rattle.bits.proofs.Extend.{by_half, extend_low, extend_high, extend_lt}
use Rattle.bits.proofs.Tests.{and_left, and_right}
use Rattle.isa.specs.InstructionSet.{I, Form, zext, sext, jump, Row, rows, first_fit, width, read, immediate, pack, entry, decode}
use Rattle.isa.specs.Groups.{first_branch, first_nop_movhi, IsBranch}
use Rattle.isa.specs.Entry.{kind_of_entry, fields_of}
use Rattle.isa.specs.Inner.{kind_of}
use Rattle.isa.proofs.Complete.{decode_kind}
use Rattle.isa.proofs.Immediates.{jump_extend}
use Rattle.isa.proofs.Pictures.{read_lt}
use Rattle.isa.proofs.Rows.{every_row, first_has}
use Rattle.lawful.specs.Inner.{Multiple}

-- a row of a branch keeps a jump's immediate, of 26 bits
abbrev is_jump : Form → Bool
is_jump zext = false
is_jump sext = false
is_jump jump = true

abbrev jumps : Row → Bool
jumps r = not (leb first_branch r.kind && ltb r.kind first_nop_movhi) || (is_jump r.form && eqb (width I r.bits) 26)

rows_jump : T (every_row jumps rows)
unfolding rows width
rows_jump = tt

-- 4 times a signed number
jump_small : (n : ℕ) → n < 2 ^ 26 → (extend true 28 (n * 4) < 2 ^ 32) × Multiple (extend true 28 (n * 4))
jump_small n h =
    let b : n * 4 % 2 ^ 28 ≡ n * 4 = omega arith in (
      extend_lt 28 (n * 4) (omega arith) (omega arith) true,
      by_half 28 (n * 4) (omega arith) (Multiple (extend true 28 (n * 4)))
          (λ l. rw (extend_low 28 (n * 4) (omega arith) (omega arith) l) (omega arith))
          (λ l. rw (extend_high 28 (n * 4) (omega arith) (omega arith) l) (omega arith)),
    )

kept : (k d a b n : ℕ) → n < 2 ^ 32 → Multiple n → Multiple (pack k d a b n % 2 ^ 32)
kept k d a b n h m = omega arith

row_immediate : (r : Row) (w : ℕ) → T (is_jump r.form && eqb (width I r.bits) 26) → Multiple (entry r w % 2 ^ 32)
unfolding entry
row_immediate r w t =
    let e : width I r.bits ≡ 26 = eqb→eq _ 26 (and_right (is_jump r.form) (eqb (width I r.bits) 26) t) in
    let h : read I r.bits w < 2 ^ 26 = rw e at (read_lt I r.bits w) in
    let n = immediate r.form (read I r.bits w) in
    let q : extend true 28 (read I r.bits w * 4) ≡ n =
    jump_extend (read I r.bits w) h ∙ of_form r.form (and_left (is_jump r.form) (eqb (width I r.bits) 26) t) (read I r.bits w) in
    let s = jump_small (read I r.bits w) h in
    kept r.kind _ _ _ n (rw q at s.0) (rw q at s.1)
  where
    of_form : (f : Form) → T (is_jump f) → (m : ℕ) → immediate jump m ≡ immediate f m
    of_form zext u m = absurd u
    of_form sext u m = absurd u
    of_form jump u m = refl

by_kind : (w : ℕ) → IsBranch (kind_of w) → Multiple (decode w % 2 ^ 32)
unfolding kind_of decode
by_kind w h =
    let r = first_fit rows w in
    let t : T (jumps r) = first_has jumps rows w rows_jump in
    row_immediate r w (rw (le-leb first_branch r.kind h.0, lt-ltb r.kind first_nop_movhi h.1) at t)

pub decoded_jump : (w : ℕ) → IsBranch (kind_of_entry (decode w)) → Multiple (fields_of (decode w)).immediate
decoded_jump w h = by_kind w (rw (decode_kind w) at h)
