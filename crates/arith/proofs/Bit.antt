-- One bit of a word made another. Assumes nothing.
use Rattle.std.proofs.Common.{◌≡◌, ℕ, suc, ◌+◌, ◌-◌, ◌*◌, ◌/◌, ◌%◌, ◌^◌, ◌<◌, ◌≤◌, Bool, true, false, ltb, sym, refl, ap, ◌∙◌, mod-lt, mul_assoc, mul_comm, add-mul, pow-suc, add-one, arith, pow_pos, pow-add, shr-shr, shr_lt, ltb-false, ltb-true}
use mir.Val.{bool_byte}
use lib.Arith.{digits_lt}
use lib.Pow.{split, high, low, field, mod-mod-pow, mod-pow-add}
use Rattle.bits.specs.Word.{bit, bit_at}
use Rattle.std.specs.Int.{w32, bit_not}
use Rattle.std.specs.Int.Bits.{bit_and, bit_or}
use Rattle.std.proofs.lemmas.Nat.{and_le_l}
use Rattle.std.proofs.lemmas.Nat.Bits.{bit_at_set_same, bit_at_set_other, bit_at_clear_same, bit_at_clear_other, same_from_bits, same_from_bits_below}
use Rattle.bits.proofs.Cases.{by_equality}
use Rattle.arith.specs.Bit.{set_bit}

pub bit_at_lt : (i x : ℕ) → bit_at i x < 2
bit_at_lt i x = omega arith

-- two digits in one
pub two_digits : (q p v : ℕ) → q * (p * 2) + v * p ≡ (q * 2 + v) * p
two_digits q p v = ap (λ t. t + v * p) (ap (λ t. q * t) (mul_comm p 2) ∙ sym (mul_assoc q 2 p)) ∙ sym (add-mul (q * 2) v p)

pub bit_lt : (t : Bool) → bit t < 2
bit_lt true = omega arith
bit_lt false = omega arith

-- a bool as a number
pub bit_byte : (t : Bool) → bool_byte t ≡ bit t
bit_byte true = refl
bit_byte false = refl

module _ (i : ℕ) (v : Bool) (x : ℕ) where
  set_split : set_bit i v x ≡ (x / 2 ^ suc i * 2 + bit v) * 2 ^ i + x % 2 ^ i
  unfolding set_bit
  set_split =
      ap (λ p. x / 2 ^ suc i * p + bit v * 2 ^ i + x % 2 ^ i) (pow-suc 2 i)
      ∙ ap (λ n. n + x % 2 ^ i) (two_digits (x / 2 ^ suc i) (2 ^ i) (bit v))

  set_high : set_bit i v x / 2 ^ i ≡ x / 2 ^ suc i * 2 + bit v
  set_high = ap (λ t. t / 2 ^ i) set_split ∙ high (x / 2 ^ suc i * 2 + bit v) i (mod-lt x (pow_pos i))

  set_low : set_bit i v x % 2 ^ i ≡ x % 2 ^ i
  set_low = ap (λ t. t % 2 ^ i) set_split ∙ low (x / 2 ^ suc i * 2 + bit v) i (mod-lt x (pow_pos i))

  -- the bit is what was set
  pub get_set : bit_at i (set_bit i v x) ≡ bit v
  get_set = ap (λ t. t % 2) set_high ∙ last (x / 2 ^ suc i)
    where
      last : (q : ℕ) → (q * 2 + bit v) % 2 ≡ bit v
      last q = let h = bit_lt v in omega arith

  get_below : (j : ℕ) → j < i → bit_at j (set_bit i v x) ≡ bit_at j x
  get_below j g =
      let e : i ≡ i - suc j + (1 + j) = omega arith in
      let m : (y : ℕ) → bit_at j y ≡ y % 2 ^ i % 2 ^ (1 + j) / 2 ^ j =
      λ y. sym (field y 1 j) ∙ sym (ap (λ t. t / 2 ^ j) (ap (λ t. y % 2 ^ t % 2 ^ (1 + j)) e ∙ mod-mod-pow y (i - suc j) (1 + j))) in
      m (set_bit i v x) ∙ ap (λ t. t % 2 ^ (1 + j) / 2 ^ j) set_low ∙ sym (m x)

  get_above : (j : ℕ) → i < j → bit_at j (set_bit i v x) ≡ bit_at j x
  get_above j g =
      let e : i + 1 + (j - suc i) ≡ j = omega arith in
      let m : (y : ℕ) → bit_at j y ≡ y / 2 ^ (i + 1) / 2 ^ (j - suc i) % 2 =
      λ y. ap (λ t. y / 2 ^ t % 2) (sym e) ∙ ap (λ t. t % 2) (sym (shr-shr y (i + 1) (j - suc i))) in
      let s : set_bit i v x / 2 ^ (i + 1) ≡ x / 2 ^ (i + 1) =
      sym (shr-shr (set_bit i v x) i 1) ∙ ap (λ t. t / 2) set_high ∙ half (x / 2 ^ suc i) ∙ ap (λ t. x / 2 ^ t) (sym (add-one i)) in
      m (set_bit i v x) ∙ ap (λ t. t / 2 ^ (j - suc i) % 2) s ∙ sym (m x)
    where
      half : (q : ℕ) → (q * 2 + bit v) / 2 ≡ q
      half q = let h = bit_lt v in omega arith

  -- the other bits stay
  pub get_other : (j : ℕ) → (i ≡ j → ⊥) → bit_at j (set_bit i v x) ≡ bit_at j x
  get_other j ne = go (ltb j i) refl
    where
      go : (t : Bool) → ltb j i ≡ t → bit_at j (set_bit i v x) ≡ bit_at j x
      go true e = get_below j (ltb-true j i e)
      go false e = let l : i ≤ j = ltb-false j i e in get_above j (omega arith)

  pub set_lt : i < 32 → x < 2 ^ 32 → set_bit i v x < 2 ^ 32
  set_lt g l =
      let h = bit_lt v in
      let e : 32 - suc i + suc i ≡ 32 = omega arith in
      let f : 32 - suc i + 1 + i ≡ 32 = omega arith in
      let q : x / 2 ^ suc i < 2 ^ (32 - suc i) = shr_lt (32 - suc i) (suc i) (rw e l) in
      let d : 2 ^ (32 - suc i + 1) ≡ 2 ^ (32 - suc i) * 2 = pow-add 2 (32 - suc i) 1 in
      let w : 2 ^ (32 - suc i + 1) * 2 ^ i ≡ 2 ^ 32 = sym (pow-add 2 (32 - suc i + 1) i) ∙ ap (λ n. 2 ^ n) f in
      rw (set_split, ← w)
      (digits_lt {q = x / 2 ^ suc i * 2 + bit v} {m = 2 ^ (32 - suc i + 1)} {r = x % 2 ^ i} {c = 2 ^ i} (omega arith) (mod-lt x (pow_pos i)))

bit_split : (i x : ℕ) → x / 2 ^ suc i * 2 ^ suc i + bit_at i x * 2 ^ i + x % 2 ^ i ≡ x
bit_split i x =
    let e : suc i ≡ 1 + i = omega arith in
    let m : x % 2 ^ suc i ≡ bit_at i x * 2 ^ i + x % 2 ^ i = ap (λ n. x % 2 ^ n) e ∙ mod-pow-add x 1 i in
    let s : x / 2 ^ suc i * 2 ^ suc i + x % 2 ^ suc i ≡ x = split x (suc i) in
    omega arith

bit_le : (i x : ℕ) → bit_at i x * 2 ^ i ≤ x
bit_le i x = let s = bit_split i x in omega arith

-- the old bit for the new one
pub set_exchange : (i : ℕ) (v : Bool) (x : ℕ) → set_bit i v x + bit_at i x * 2 ^ i ≡ x + bit v * 2 ^ i
unfolding set_bit
set_exchange i v x = let s = bit_split i x in omega arith

-- ---- the code: a bit is set by `or`, and cleared by `and`

module _ (i x : ℕ) (hi : i < 32) (hx : x < 2 ^ 32) where
  pub set_by_or : bit_or x (1 * 2 ^ i % 2 ^ 32) ≡ set_bit i true x
  set_by_or =
      same_from_bits _ _
      (λ j. by_equality j i
      (λ q. rw q (bit_at_set_same w32 x i hi ∙ sym (get_set i true x)))
      (λ q. bit_at_set_other w32 x i hi j q ∙ sym (get_other i true x j (λ e. q (sym e)))))

  pub cleared_by_and : bit_and x (bit_not w32 (1 * 2 ^ i % 2 ^ 32)) ≡ set_bit i false x
  cleared_by_and =
      same_from_bits_below 32 _ _ (let l = and_le_l x (bit_not w32 (1 * 2 ^ i % 2 ^ 32)) in omega arith) (set_lt i false x hi hx)
      (λ j hj. by_equality j i
      (λ q. rw q (bit_at_clear_same w32 x i hi ∙ sym (get_set i false x)))
      (λ q. bit_at_clear_other w32 x i hi j hj q ∙ sym (get_other i false x j (λ e. q (sym e)))))
