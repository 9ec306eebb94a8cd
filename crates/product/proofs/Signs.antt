-- Signed numbers by their sign and magnitude. Assumes nothing.
use Rattle.std.proofs.Common.{◌≡◌, ℕ, zero, suc, ◌-◌, ◌*◌, ◌/◌, ◌%◌, ◌^◌, ◌<◌, ◌≤◌, Bool, true, false, leb, ℤ, pos, negsuc, ◌*ℤ◌, neg_ℤ, nat_abs, sym, refl, ap, ◌∙◌, ap₂, le_trans, zero-le, mod-eq_of_lt, mul-zero, zero-mul, arith, le-leb}
use mathlib.Core.Bool.{xor}
use native.Mathlib.Nat.{zero-div, div-zero, div-le_self}
use lib.Signed.{mag, quot_z}
use borrow.Author.Tests.{lt-leb}
use Rattle.std.specs.Prelude.{if◌then◌else◌}
use Rattle.bits.specs.Word.{signed, word}
use Rattle.bits.proofs.Extend.{signed_low, signed_high, by_half}

-- the number of this sign and magnitude
abbrev pub with_sign : Bool → ℕ → ℤ
with_sign s m = if s then neg_ℤ (pos m) else pos m

-- a word's sign
abbrev pub negative : ℕ → Bool
negative x = leb (2 ^ 31) x

-- ---- words

pub word_neg : (m : ℕ) → word (neg_ℤ (pos m)) ≡ (2 ^ 32 - m % 2 ^ 32) % 2 ^ 32
unfolding word
word_neg zero = refl
word_neg (suc m) = omega arith

module _ (x : ℕ) (h : x < 2 ^ 32) where
  pub signed_pos : x < 2 ^ 31 → signed 32 x ≡ pos x
  signed_pos l =
      let a : x % 2 ^ 32 ≡ x = mod-eq_of_lt h in
      signed_low 32 x (omega arith) (omega arith) ∙ ap pos a

  pub signed_neg : 2 ^ 31 ≤ x → signed 32 x ≡ negsuc (2 ^ 32 - suc x)
  signed_neg l =
      let a : 2 ^ 32 - suc (x % 2 ^ 32) ≡ 2 ^ 32 - suc x = omega arith in
      signed_high 32 x (omega arith) (omega arith) ∙ ap negsuc a

  -- what holds of a word of either sign
  pub by_signs : (P : Type 0) → (x < 2 ^ 31 → negative x ≡ false → signed 32 x ≡ pos x → P)
      → (2 ^ 31 ≤ x → negative x ≡ true → signed 32 x ≡ negsuc (2 ^ 32 - suc x) → P) → P
  by_signs P f g =
      by_half 32 x (omega arith) P
      (λ l. let k : x < 2 ^ 31 = omega arith in f k (lt-leb (2 ^ 31) x k) (signed_pos k))
      (λ l. let k : 2 ^ 31 ≤ x = omega arith in g k (le-leb (2 ^ 31) x k) (signed_neg k))

  signed_parts : signed 32 x ≡ with_sign (negative x) (nat_abs (signed 32 x))
  signed_parts = by_signs (signed 32 x ≡ with_sign (negative x) (nat_abs (signed 32 x))) (λ k n e. rw (n, e)) (λ k n e. rw (n, e))

-- ---- products and quotients: of the magnitudes, and negative if the signs differ

neg_none : (k : ℕ) → k ≡ 0 → neg_ℤ (pos k) ≡ pos k
neg_none k e = ap (λ j. neg_ℤ (pos j)) e ∙ sym (ap pos e)

module _ (f : ℕ → ℕ → ℕ) (op : ℤ → ℤ → ℤ) (none_l : (n : ℕ) → f 0 n ≡ 0) (none_r : (m : ℕ) → f m 0 ≡ 0)
    (pp : (m n : ℕ) → op (pos m) (pos n) ≡ pos (f m n)) (pn : (m n : ℕ) → op (pos m) (negsuc n) ≡ neg_ℤ (pos (f m (suc n))))
    (np : (m n : ℕ) → op (negsuc m) (pos n) ≡ neg_ℤ (pos (f (suc m) n))) (nn : (m n : ℕ) → op (negsuc m) (negsuc n) ≡ pos (f (suc m) (suc n))) where
  of_signs : (s t : Bool) (m n : ℕ) → op (with_sign s m) (with_sign t n) ≡ with_sign (xor s t) (f m n)
  unfolding xor
  of_signs false false m n = pp m n
  of_signs false true m zero = pp m 0 ∙ sym (neg_none (f m 0) (none_r m))
  of_signs false true m (suc n) = pn m n
  of_signs true false zero n = pp 0 n ∙ sym (neg_none (f 0 n) (none_l n))
  of_signs true false (suc m) n = np m n
  of_signs true true zero zero = pp 0 0
  of_signs true true zero (suc n) = pn 0 n ∙ neg_none (f 0 (suc n)) (none_l (suc n))
  of_signs true true (suc m) zero = np m 0 ∙ neg_none (f (suc m) 0) (none_r (suc m))
  of_signs true true (suc m) (suc n) = nn m n

module _ (a b : ℕ) (ha : a < 2 ^ 32) (hb : b < 2 ^ 32) where
  pub product_parts : signed 32 a *ℤ signed 32 b ≡ with_sign (xor (negative a) (negative b)) (nat_abs (signed 32 a) * nat_abs (signed 32 b))
  product_parts =
      ap₂ ◌*ℤ◌ (signed_parts a ha) (signed_parts b hb)
      ∙ of_signs ◌*◌ ◌*ℤ◌ zero-mul mul-zero (λ m n. refl) (λ m n. refl) (λ m n. refl) (λ m n. refl)
      (negative a) (negative b) (nat_abs (signed 32 a)) (nat_abs (signed 32 b))

  pub quotient_parts : quot_z (signed 32 a) (signed 32 b) ≡ with_sign (xor (negative a) (negative b)) (nat_abs (signed 32 a) / nat_abs (signed 32 b))
  quotient_parts =
      ap₂ quot_z (signed_parts a ha) (signed_parts b hb)
      ∙ of_signs ◌/◌ quot_z zero-div div-zero (λ m n. refl) (λ m n. refl) (λ m n. refl) (λ m n. refl)
      (negative a) (negative b) (nat_abs (signed 32 a)) (nat_abs (signed 32 b))

-- ---- a quotient is no larger than what is divided

mag_neg : (r : ℕ) → mag (neg_ℤ (pos r)) ≤ r
mag_neg zero = zero-le
mag_neg (suc r) = omega arith

pub mag_quot : (z d : ℤ) → mag (quot_z z d) ≤ nat_abs z
mag_quot (pos a) (pos b) = div-le_self a b
mag_quot (pos a) (negsuc b) = le_trans (mag_neg (a / suc b)) (div-le_self a (suc b))
mag_quot (negsuc a) (pos b) = le_trans (mag_neg (suc a / b)) (div-le_self (suc a) b)
mag_quot (negsuc a) (negsuc b) = div-le_self (suc a) (suc b)
