-- Sums and differences: what the code works out is what the definitions say. Assumes nothing.
use Rattle.std.proofs.Common.{◌≡◌, ℕ, zero, suc, ◌+◌, ◌-◌, ◌*◌, ◌/◌, ◌%◌, ◌^◌, ◌<◌, ◌≤◌, Bool, true, false, not, ◌&&◌, ◌||◌, eqb, ltb, leb, pos, ◌+ℤ◌, ◌-ℤ◌, sym, refl, ap, ◌∙◌, ap₂, arith, le-ltb, lt-ltb, le-leb}
use lib.Bits.{bit_and, bit_xor, and_shr, xor_shr}
use lib.IntN.{sub_ℕ}
use lib.Signed.{lt_z}
use borrow.Author.Tests.{lt-leb}
use Rattle.std.specs.Bool.{FalseIff}
use Rattle.bits.specs.Word.{bit, signed, word}
use Rattle.bits.proofs.Extend.{signed_word}
use Rattle.arith.specs.Sums.{fits, sum, difference, address_sum}
use Rattle.arith.specs.declared.Flagged.{Flagged}
use Rattle.arith.proofs.Bit.{bit_lt, bit_byte}
use Rattle.arith.proofs.Integer.{by_sign, sub_add, sub_sub, sub_le, sub_lt, sub_zero}
use Rattle.arith.proofs.Signed.{word_lt}

-- ---- for callers

-- a result is a word; its flags are booleans
pub sum_ranged : (a b : ℕ) (c : Bool) → (sum a b c).value < 2 ^ 32
unfolding sum
sum_ranged a b c = omega arith

pub difference_ranged : (a b : ℕ) → (difference a b).value < 2 ^ 32
unfolding difference
difference_ranged a b = word_lt (pos a -ℤ pos b)

-- the low 32 bits of a difference, in natural numbers
pub word_sub : (a b : ℕ) → a < 2 ^ 32 → b < 2 ^ 32 → word (pos a -ℤ pos b) ≡ (a + 2 ^ 32 - b) % 2 ^ 32
unfolding word
word_sub a b ha hb =
    let e : a + 0 ≡ a = omega arith in
    let f : 0 + b ≡ b = omega arith in
    ap word (ap₂ ◌-ℤ◌ (sub_zero a) (sub_zero b) ∙ sub_sub a 0 b 0 ∙ ap₂ sub_ℕ e f)
    ∙ by_sign a b (λ z. word z ≡ (a + 2 ^ 32 - b) % 2 ^ 32) (λ h. omega arith) (λ h. omega arith)

-- sums and differences of multiples of 4 are multiples of 4
pub address_sum_multiple : (a b : ℕ) → a % 4 ≡ 0 → b % 4 ≡ 0 → address_sum a b % 4 ≡ 0
address_sum_multiple a b ma mb = omega arith

-- ---- what the code works out

pub wrapped_sub : (a b r : ℕ) → a < 2 ^ 32 → b < 2 ^ 32 → r < 2 ^ 32 → (r + b) % 2 ^ 32 ≡ a → r ≡ word (pos a -ℤ pos b)
wrapped_sub a b r ha hb hr e = let h : r ≡ (a + 2 ^ 32 - b) % 2 ^ 32 = omega arith in h ∙ sym (word_sub a b ha hb)

-- the carry of a sum in two steps, of which at most one carries
pub sum_carry : (a b : ℕ) (c : Bool) (s : ℕ) (u v : Bool) → a < 2 ^ 32 → b < 2 ^ 32 → s ≡ (a + b) % 2 ^ 32
    → FalseIff u (a + b < 2 ^ 32) → FalseIff v (s + bit c < 2 ^ 32) → (u || v) ≡ leb (2 ^ 32) (a + b + bit c)
sum_carry a b c s true v ha hb e p q = let k : 2 ^ 32 ≤ a + b + bit c = omega arith in sym (le-leb _ _ k)
sum_carry a b c s false true ha hb e p q = let k : 2 ^ 32 ≤ a + b + bit c = omega arith in sym (le-leb _ _ k)
sum_carry a b c s false false ha hb e p q = let k : a + b + bit c < 2 ^ 32 = omega arith in sym (lt-leb _ _ k)

-- the borrow of a difference
pub borrowed : (a b : ℕ) (u : Bool) → FalseIff u (b ≤ a) → u ≡ ltb a b
borrowed a b true p = let k : a < b = omega arith in sym (lt-ltb a b k)
borrowed a b false p = sym (le-ltb a b p)

-- ---- overflow: the exact signed result, a difference of natural numbers, against the top bits of the code's test

fits_sub : (x p : ℕ) → fits (sub_ℕ x p) ≡ leb (0 + p) (x + 2 ^ 31) && ltb (x + 0) (2 ^ 31 + p)
unfolding fits
fits_sub x p = ap₂ ◌&&◌ (sub_le 0 (2 ^ 31) x p) (ap (λ z. lt_z (sub_ℕ x p) z) (sub_zero (2 ^ 31)) ∙ sub_lt x p (2 ^ 31) 0)

abbrev overflows : ℕ → ℕ → Bool
overflows x p = not (fits (sub_ℕ x p))

module _ (x p : ℕ) where
  inside : p ≤ x + 2 ^ 31 → x < 2 ^ 31 + p → false ≡ overflows x p
  inside h g =
      let h' : 0 + p ≤ x + 2 ^ 31 = omega arith in
      let g' : x + 0 < 2 ^ 31 + p = omega arith in
      rw (fits_sub x p, le-leb _ _ h', lt-ltb _ _ g')

  below : x + 2 ^ 31 < p → true ≡ overflows x p
  below h =
      let h' : x + 2 ^ 31 < 0 + p = omega arith in
      rw (fits_sub x p, lt-leb _ _ h')

  above : 2 ^ 31 + p ≤ x → true ≡ overflows x p
  above h =
      let h' : 0 + p ≤ x + 2 ^ 31 = omega arith in
      let g' : 2 ^ 31 + p ≤ x + 0 = omega arith in
      rw (fits_sub x p, le-leb _ _ h', le-ltb _ _ g')

-- the top bit of the code's test
tops : (x y z w : ℕ) → eqb (bit_and (bit_xor x y) (bit_xor z w) / 2 ^ 31) 1 ≡ eqb (bit_and (bit_xor (x / 2 ^ 31) (y / 2 ^ 31)) (bit_xor (z / 2 ^ 31) (w / 2 ^ 31))) 1
tops x y z w = ap (λ n. eqb n 1) (and_shr (bit_xor x y) (bit_xor z w) 31 ∙ ap₂ bit_and (xor_shr x y 31) (xor_shr z w 31))

-- a number below 2 is 0 or 1
two : (P : ℕ → Type 0) → P 0 → P 1 → (n : ℕ) → n < 2 → P n
two P p q zero h = p
two P p q (suc zero) h = q
two P p q (suc (suc n)) h = absurd (omega arith)

module _ (a b s : ℕ) (ha : a < 2 ^ 32) (hb : b < 2 ^ 32) (hs : s < 2 ^ 32) where
  -- what holds of the top bits, by their eight cases
  eight : (P : ℕ → ℕ → ℕ → Type 0)
      → (a / 2 ^ 31 ≡ 0 → b / 2 ^ 31 ≡ 0 → s / 2 ^ 31 ≡ 0 → P 0 0 0)
      → (a / 2 ^ 31 ≡ 0 → b / 2 ^ 31 ≡ 0 → s / 2 ^ 31 ≡ 1 → P 0 0 1)
      → (a / 2 ^ 31 ≡ 0 → b / 2 ^ 31 ≡ 1 → s / 2 ^ 31 ≡ 0 → P 0 1 0)
      → (a / 2 ^ 31 ≡ 0 → b / 2 ^ 31 ≡ 1 → s / 2 ^ 31 ≡ 1 → P 0 1 1)
      → (a / 2 ^ 31 ≡ 1 → b / 2 ^ 31 ≡ 0 → s / 2 ^ 31 ≡ 0 → P 1 0 0)
      → (a / 2 ^ 31 ≡ 1 → b / 2 ^ 31 ≡ 0 → s / 2 ^ 31 ≡ 1 → P 1 0 1)
      → (a / 2 ^ 31 ≡ 1 → b / 2 ^ 31 ≡ 1 → s / 2 ^ 31 ≡ 0 → P 1 1 0)
      → (a / 2 ^ 31 ≡ 1 → b / 2 ^ 31 ≡ 1 → s / 2 ^ 31 ≡ 1 → P 1 1 1)
      → P (a / 2 ^ 31) (b / 2 ^ 31) (s / 2 ^ 31)
  eight P k0 k1 k2 k3 k4 k5 k6 k7 =
      let Q : ℕ → ℕ → ℕ → Type 0 = λ x y z. a / 2 ^ 31 ≡ x → b / 2 ^ 31 ≡ y → s / 2 ^ 31 ≡ z → P x y z in
      two (λ x. Q x (b / 2 ^ 31) (s / 2 ^ 31))
      (two (λ y. Q 0 y (s / 2 ^ 31)) (two (Q 0 0) k0 k1 _ (omega arith)) (two (Q 0 1) k2 k3 _ (omega arith)) _ (omega arith))
      (two (λ y. Q 1 y (s / 2 ^ 31)) (two (Q 1 0) k4 k5 _ (omega arith)) (two (Q 1 1) k6 k7 _ (omega arith)) _ (omega arith))
      _ (omega arith) refl refl refl

  -- a sum overflows if its operands have one sign and the result the other
  pub sum_overflow : (c : ℕ) → c < 2 → s ≡ (a + b + c) % 2 ^ 32
      → eqb (bit_and (bit_xor a s) (bit_xor b s) / 2 ^ 31) 1 ≡ not (fits (signed 32 a +ℤ signed 32 b +ℤ pos c))
  sum_overflow c hc e =
      let p = a / 2 ^ 31 * 2 ^ 32 in
      let q = b / 2 ^ 31 * 2 ^ 32 in
      let t = a + b + c in
      tops a s b s
      ∙ eight (λ x y z. eqb (bit_and (bit_xor x z) (bit_xor y z)) 1 ≡ overflows t (x * 2 ^ 32 + y * 2 ^ 32 + 0))
      (λ f g h. inside t 0 (omega arith) (omega arith))
      (λ f g h. above t 0 (omega arith))
      (λ f g h. inside t (2 ^ 32) (omega arith) (omega arith))
      (λ f g h. inside t (2 ^ 32) (omega arith) (omega arith))
      (λ f g h. inside t (2 ^ 32) (omega arith) (omega arith))
      (λ f g h. inside t (2 ^ 32) (omega arith) (omega arith))
      (λ f g h. below t (2 ^ 33) (omega arith))
      (λ f g h. inside t (2 ^ 33) (omega arith) (omega arith))
      ∙ sym
      (ap (λ z. not (fits z))
      (ap₂ ◌+ℤ◌ (ap₂ ◌+ℤ◌ (signed_word a ha) (signed_word b hb) ∙ sub_add a p b q) (sub_zero c) ∙ sub_add (a + b) (p + q) c 0))

  -- a difference overflows if its operands have two signs and the result has not the first's
  pub difference_overflow : (s + b) % 2 ^ 32 ≡ a → eqb (bit_and (bit_xor a b) (bit_xor a s) / 2 ^ 31) 1 ≡ not (fits (signed 32 a -ℤ signed 32 b))
  difference_overflow e =
      let p = a / 2 ^ 31 * 2 ^ 32 in
      let q = b / 2 ^ 31 * 2 ^ 32 in
      tops a b a s
      ∙ eight (λ x y z. eqb (bit_and (bit_xor x y) (bit_xor x z)) 1 ≡ overflows (a + y * 2 ^ 32) (x * 2 ^ 32 + b))
      (λ f g h. inside (a + 0) (0 + b) (omega arith) (omega arith))
      (λ f g h. inside (a + 0) (0 + b) (omega arith) (omega arith))
      (λ f g h. inside (a + 2 ^ 32) (0 + b) (omega arith) (omega arith))
      (λ f g h. above (a + 2 ^ 32) (0 + b) (omega arith))
      (λ f g h. below (a + 0) (2 ^ 32 + b) (omega arith))
      (λ f g h. inside (a + 0) (2 ^ 32 + b) (omega arith) (omega arith))
      (λ f g h. inside (a + 2 ^ 32) (2 ^ 32 + b) (omega arith) (omega arith))
      (λ f g h. inside (a + 2 ^ 32) (2 ^ 32 + b) (omega arith) (omega arith))
      ∙ sym (ap (λ z. not (fits z)) (ap₂ ◌-ℤ◌ (signed_word a ha) (signed_word b hb) ∙ sub_sub a p b q))

pub flagged_same : {v v' : ℕ} {c c' o o' : Bool} → v ≡ v' → c ≡ c' → o ≡ o'
    → ◌≡◌ {A = Flagged} (record { value = v; carry = c; overflow = o }) (record { value = v'; carry = c'; overflow = o' })
flagged_same p q r = cc

-- ---- what the code's functions cite

pub ruleset adding = (sum_carry, sum_overflow, flagged_same, bit_byte, bit_lt)

pub ruleset subtracting = (word_sub, difference_overflow, borrowed, flagged_same)
