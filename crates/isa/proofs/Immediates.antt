-- The immediate as execution uses it, and its bits back. Assumes nothing.
use mathlib.Core.Bool.{Bool, true}
use mathlib.Core.Path.{◌≡◌, sym, ap, subst, ◌∙◌}
use Prim.Native.Nat.{ℕ, zero, suc, ◌+◌, ◌-◌, ◌*◌, ◌/◌, ◌%◌, ◌^◌, ◌<◌, ◌≤◌}
use native.Mathlib.Omega.{arith}
use native.Mathlib.Nat.{mod-eq_of_lt}
use lib.Dec.{T, eqb, leb, eqb→eq, leb→le}
use lib.Pow.{pow_mono}
use lib.IntN.{pos, neg_ℤ, ◌*ℤ◌}
use Rattle.bits.specs.Word.{word, extend}
use Rattle.bits.proofs.Extend.{signed_low, signed_high, by_half, extend_low, extend_high, extend_lt, extend_back}
use Rattle.isa.specs.InstructionSet.{Form, zext, sext, jump, immediate, immediate_bits}

word_neg : (m : ℕ) → 0 < m → m < 2 ^ 32 → word (neg_ℤ (pos m)) ≡ 2 ^ 32 - m
unfolding word
word_neg zero h l = absurd (omega arith)
word_neg (suc m) h l = let e : m % 2 ^ 32 ≡ m = mod-eq_of_lt (omega arith) in rw e (omega arith)

jump_low : (n : ℕ) → n % 2 ^ 26 < 2 ^ 25 → immediate jump n ≡ 4 * (n % 2 ^ 26) % 2 ^ 32
unfolding immediate word
jump_low n l = ap (λ z. word (pos 4 *ℤ z)) (signed_low 26 n (omega arith) l)

jump_high : (n : ℕ) → 2 ^ 25 ≤ n % 2 ^ 26 → immediate jump n ≡ 2 ^ 32 - 4 * suc (2 ^ 26 - suc (n % 2 ^ 26))
unfolding immediate
jump_high n l =
    ap (λ z. word (pos 4 *ℤ z)) (signed_high 26 n (omega arith) l) ∙ word_neg (4 * suc (2 ^ 26 - suc (n % 2 ^ 26))) (omega arith) (omega arith)

-- 4 times the signed number of 26 bits is the signed number of 28
pub jump_extend : (n : ℕ) → n < 2 ^ 26 → extend true 28 (n * 4) ≡ immediate jump n
jump_extend n h =
    let a : n % 2 ^ 26 ≡ n = mod-eq_of_lt h in
    let b : n * 4 % 2 ^ 28 ≡ n * 4 = mod-eq_of_lt (omega arith) in
    by_half 26 n (omega arith) (extend true 28 (n * 4) ≡ immediate jump n)
    (λ l.
    let e : n * 4 % 2 ^ 28 ≡ 4 * (n % 2 ^ 26) % 2 ^ 32 = omega arith in
    extend_low 28 (n * 4) (omega arith) (omega arith) (omega arith) ∙ e ∙ sym (jump_low n l))
    (λ l.
    let e : n * 4 % 2 ^ 28 + (2 ^ 32 - 2 ^ 28) ≡ 2 ^ 32 - 4 * suc (2 ^ 26 - suc (n % 2 ^ 26)) = omega arith in
    extend_high 28 (n * 4) (omega arith) (omega arith) (omega arith) ∙ e ∙ sym (jump_high n l))

-- a form and the number of bits that it is kept from
abbrev pub form_width : Form → ℕ → Bool
form_width zext k = leb k 26
form_width sext k = eqb k 16
form_width jump k = eqb k 26

-- an immediate is a word, and its bits are those it was kept from
pub immediate_lt : (f : Form) (k n : ℕ) → T (form_width f k) → n < 2 ^ k → immediate f n < 2 ^ 32
unfolding immediate extend
immediate_lt zext k n t h = let m : 2 ^ k ≤ 2 ^ 26 = pow_mono (leb→le k 26 t) in omega arith
immediate_lt sext k n t h = extend_lt 16 n (omega arith) (omega arith) true
immediate_lt jump k n t h =
    let l : n < 2 ^ 26 = subst (λ (j : ℕ). n < 2 ^ j) (eqb→eq k 26 t) h in
    subst (λ (m : ℕ). m < 2 ^ 32) (jump_extend n l) (extend_lt 28 (n * 4) (omega arith) (omega arith) true)

jump_back : (n : ℕ) → n < 2 ^ 26 → extend true 28 (n * 4) / 4 % 2 ^ 26 ≡ n
jump_back n h =
    let b : n * 4 % 2 ^ 28 ≡ n * 4 = mod-eq_of_lt (omega arith) in
    by_half 28 (n * 4) (omega arith) (extend true 28 (n * 4) / 4 % 2 ^ 26 ≡ n)
    (λ l. rw (extend_low 28 (n * 4) (omega arith) (omega arith) l, b) (omega arith))
    (λ l. rw (extend_high 28 (n * 4) (omega arith) (omega arith) l, b) (omega arith))

pub immediate_back : (f : Form) (k n : ℕ) → T (form_width f k) → n < 2 ^ k → immediate_bits f (immediate f n) % 2 ^ k ≡ n
unfolding immediate_bits immediate extend
immediate_back zext k n t h = mod-eq_of_lt h
immediate_back sext k n t h =
    let e : k ≡ 16 = eqb→eq k 16 t in
    let l : n < 2 ^ 16 = subst (λ (j : ℕ). n < 2 ^ j) e h in
    rw e (extend_back 16 n (omega arith) (omega arith) true ∙ mod-eq_of_lt l)
immediate_back jump k n t h =
    let e : k ≡ 26 = eqb→eq k 26 t in
    let l : n < 2 ^ 26 = subst (λ (j : ℕ). n < 2 ^ j) e h in
    rw (e, ← jump_extend n l) (jump_back n l)
