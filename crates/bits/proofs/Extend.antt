-- Extension to a word, by the half of their range in which the low bits lie. Assumes nothing.
use Rattle.std.proofs.Common.{◌≡◌, ℕ, suc, ◌+◌, ◌-◌, ◌*◌, ◌/◌, ◌%◌, ◌^◌, ◌<◌, ◌≤◌, Bool, true, false, ltb, pos, negsuc, sym, refl, ap, ◌∙◌, mod-lt, mod-eq_of_lt, arith, pow_pos, pow_mono, pow-add, ltb-false, ltb-true, le-ltb, lt-ltb}
use native.Mathlib.Nat.{div-eq_of_lt, div-eq_of_lt-le}
use lib.Pow.{high_ones, mod-mod-pow, split}
use lib.Pow as pow
use lib.IntN.{sub_ℕ}
use Rattle.bits.specs.Word.{bit_at, signed, word, extend}

-- a difference, by its sign
pub sub_pos : (a b : ℕ) → b ≤ a → sub_ℕ a b ≡ pos (a - b)
sub_pos a b h = rw (le-ltb a b h)

pub sub_neg : (a b : ℕ) → a < b → sub_ℕ a b ≡ negsuc (b - suc a)
sub_neg a b h = rw (lt-ltb a b h)

-- what wraps to the difference
unwrap : (r h l : ℕ) → r < 2 ^ 32 → h ≤ l → l < h * 2 → h * 2 ≤ 2 ^ 32 → (r + h) % 2 ^ 32 ≡ l - h → r ≡ l + (2 ^ 32 - h * 2)
unwrap r h l f g u v e = go (ltb (r + h) (2 ^ 32)) refl
  where
    go : (b : Bool) → ltb (r + h) (2 ^ 32) ≡ b → r ≡ l + (2 ^ 32 - h * 2)
    go true c = let d : r + h ≡ l - h = sym (mod-eq_of_lt (ltb-true _ _ c)) ∙ e in absurd (omega arith)
    go false c =
        let d : 2 ^ 32 ≤ r + h = ltb-false _ _ c in
        let q : r + h - 2 ^ 32 ≡ l - h = sym (once (r + h) d (omega arith)) ∙ e in
        omega arith
      where
        once : (n : ℕ) → 2 ^ 32 ≤ n → n < 2 ^ 33 → n % 2 ^ 32 ≡ n - 2 ^ 32
        once n a b = omega arith

module _ (k x : ℕ) (p : 0 < k) where
  twice : 2 ^ k ≡ 2 ^ (k - 1) * 2
  twice =
      let e : (k - 1) + 1 ≡ k = omega arith in
      ap (λ n. 2 ^ n) (sym e) ∙ pow-add 2 (k - 1) 1

  sign_bit : x % 2 ^ k / 2 ^ (k - 1) ≡ bit_at (k - 1) x
  sign_bit =
      let e : 1 + (k - 1) ≡ k = omega arith in
      ap (λ n. x % 2 ^ n / 2 ^ (k - 1)) (sym e) ∙ pow.field x 1 (k - 1)

  pub signed_low : x % 2 ^ k < 2 ^ (k - 1) → signed k x ≡ pos (x % 2 ^ k)
  unfolding signed
  signed_low h =
      let z : 0 * 2 ^ k ≡ 0 = omega arith in
      let e : x % 2 ^ k - 0 ≡ x % 2 ^ k = omega arith in
      ap (sub_ℕ (x % 2 ^ k)) (ap (λ n. n * 2 ^ k) (sym sign_bit ∙ div-eq_of_lt h) ∙ z)
      ∙ sub_pos (x % 2 ^ k) 0 (omega arith)
      ∙ ap pos e

  pub signed_high : 2 ^ (k - 1) ≤ x % 2 ^ k → signed k x ≡ negsuc (2 ^ k - suc (x % 2 ^ k))
  unfolding signed
  signed_high h =
      let t : 2 ^ k ≡ 2 ^ (k - 1) * 2 = twice in
      let l : x % 2 ^ k < 2 ^ k = mod-lt x (pow_pos k) in
      let lo : 1 * 2 ^ (k - 1) ≤ x % 2 ^ k = omega arith in
      let hi : x % 2 ^ k < (1 + 1) * 2 ^ (k - 1) = omega arith in
      let b : bit_at (k - 1) x ≡ 1 = sym sign_bit ∙ div-eq_of_lt-le (2 ^ (k - 1)) lo hi in
      let o : 1 * 2 ^ k ≡ 2 ^ k = omega arith in
      ap (sub_ℕ (x % 2 ^ k)) (ap (λ n. n * 2 ^ k) b ∙ o) ∙ sub_neg (x % 2 ^ k) (2 ^ k) l

  -- a fact holds if it holds in each half
  pub by_half : (P : Type 0) → (x % 2 ^ k < 2 ^ (k - 1) → P) → (2 ^ (k - 1) ≤ x % 2 ^ k → P) → P
  by_half P f g = go (ltb (x % 2 ^ k) (2 ^ (k - 1))) refl
    where
      go : (b : Bool) → ltb (x % 2 ^ k) (2 ^ (k - 1)) ≡ b → P
      go true e = f (ltb-true _ _ e)
      go false e = g (ltb-false _ _ e)

  module _ (w : k ≤ 32) where
    low_lt : x % 2 ^ k < 2 ^ k
    low_lt = mod-lt x (pow_pos k)

    range_le : 2 ^ k ≤ 2 ^ 32
    range_le = pow_mono w

    pub extend_low : x % 2 ^ k < 2 ^ (k - 1) → extend true k x ≡ x % 2 ^ k
    unfolding extend word
    extend_low h =
        let l : x % 2 ^ k < 2 ^ k = low_lt in
        let m : 2 ^ k ≤ 2 ^ 32 = range_le in
        rw (signed_low h) (mod-eq_of_lt (omega arith))

    pub extend_high : 2 ^ (k - 1) ≤ x % 2 ^ k → extend true k x ≡ x % 2 ^ k + (2 ^ 32 - 2 ^ k)
    unfolding extend word
    extend_high h =
        let l : x % 2 ^ k < 2 ^ k = low_lt in
        let m : 2 ^ k ≤ 2 ^ 32 = range_le in
        let e : (2 ^ k - suc (x % 2 ^ k)) % 2 ^ 32 ≡ 2 ^ k - suc (x % 2 ^ k) = mod-eq_of_lt (omega arith) in
        rw (signed_high h, e) (omega arith)

    -- an extension is a word
    pub extend_lt : (s : Bool) → extend s k x < 2 ^ 32
    unfolding extend
    extend_lt true =
        let l : x % 2 ^ k < 2 ^ k = low_lt in
        let m : 2 ^ k ≤ 2 ^ 32 = range_le in
        by_half (extend true k x < 2 ^ 32) (λ h. rw (extend_low h) (omega arith)) (λ h. rw (extend_high h) (omega arith))
    extend_lt false =
        let l : x % 2 ^ k < 2 ^ k = low_lt in
        let m : 2 ^ k ≤ 2 ^ 32 = range_le in
        omega arith

    -- and keeps the bits that it extends
    pub extend_back : (s : Bool) → extend s k x % 2 ^ k ≡ x % 2 ^ k
    unfolding extend
    extend_back true =
        by_half (extend true k x % 2 ^ k ≡ x % 2 ^ k) (λ h. rw (extend_low h) (mod-eq_of_lt low_lt))
        (λ h. ap (λ n. n % 2 ^ k) (extend_high h ∙ turned) ∙ pow.low (2 ^ (32 - k) - 1) k low_lt)
      where
        turned : x % 2 ^ k + (2 ^ 32 - 2 ^ k) ≡ (2 ^ (32 - k) - 1) * 2 ^ k + x % 2 ^ k
        turned =
            let e : 32 - k + k ≡ 32 = omega arith in
            let o : 2 ^ 32 - 2 ^ k ≡ (2 ^ (32 - k) - 1) * 2 ^ k = ap (λ n. 2 ^ n - 2 ^ k) (sym e) ∙ high_ones (32 - k) k in
            omega arith
    extend_back false = mod-eq_of_lt low_lt

    -- moved up by half the range, cut to k bits and moved back: what the code does
    pub moved : (r : ℕ) → r < 2 ^ 32 → (r + 2 ^ (k - 1)) % 2 ^ 32 ≡ (x + 2 ^ (k - 1)) % 2 ^ 32 % 2 ^ k → r ≡ extend true k x
    moved r f e =
        let t : 2 ^ k ≡ 2 ^ (k - 1) * 2 = twice in
        let l : x % 2 ^ k < 2 ^ k = low_lt in
        let m : 2 ^ k ≤ 2 ^ 32 = range_le in
        by_half (r ≡ extend true k x)
        (λ h.
        let c : x + 2 ^ (k - 1) ≡ x / 2 ^ k * 2 ^ k + (x % 2 ^ k + 2 ^ (k - 1)) = let s = split x k in omega arith in
        let d : (r + 2 ^ (k - 1)) % 2 ^ 32 ≡ x % 2 ^ k + 2 ^ (k - 1) = e ∙ cut ∙ ap (λ n. n % 2 ^ k) c ∙ pow.low (x / 2 ^ k) k (omega arith) in
        rw (extend_low h) (omega arith))
        (λ h.
        let a : (x / 2 ^ k + 1) * 2 ^ k ≡ x / 2 ^ k * 2 ^ k + 2 ^ k = omega arith in
        let c : x + 2 ^ (k - 1) ≡ (x / 2 ^ k + 1) * 2 ^ k + (x % 2 ^ k - 2 ^ (k - 1)) = let s = split x k in omega arith in
        let d : (r + 2 ^ (k - 1)) % 2 ^ 32 ≡ x % 2 ^ k - 2 ^ (k - 1) = e ∙ cut ∙ ap (λ n. n % 2 ^ k) c ∙ pow.low (x / 2 ^ k + 1) k (omega arith) in
        extend_high_by t h (unwrap r (2 ^ (k - 1)) (x % 2 ^ k) f h (omega arith) (omega arith) d))
      where
        extend_high_by : 2 ^ k ≡ 2 ^ (k - 1) * 2 → 2 ^ (k - 1) ≤ x % 2 ^ k → r ≡ x % 2 ^ k + (2 ^ 32 - 2 ^ (k - 1) * 2) → r ≡ extend true k x
        extend_high_by t h g = g ∙ ap (λ n. x % 2 ^ k + (2 ^ 32 - n)) (sym t) ∙ sym (extend_high h)

        cut : (x + 2 ^ (k - 1)) % 2 ^ 32 % 2 ^ k ≡ (x + 2 ^ (k - 1)) % 2 ^ k
        cut =
            let e : 32 - k + k ≡ 32 = omega arith in
            ap (λ n. (x + 2 ^ (k - 1)) % 2 ^ n % 2 ^ k) (sym e) ∙ mod-mod-pow (x + 2 ^ (k - 1)) (32 - k) k

-- a word is its own extension
pub extend_word : (s : Bool) (x : ℕ) → x < 2 ^ 32 → extend s 32 x ≡ x
extend_word s x h =
    sym (mod-eq_of_lt (extend_lt 32 x (omega arith) (omega arith) s)) ∙ extend_back 32 x (omega arith) (omega arith) s ∙ mod-eq_of_lt h

-- a word's signed number: 80000000 is the least
pub signed_word : (x : ℕ) → x < 2 ^ 32 → signed 32 x ≡ sub_ℕ x (x / 2 ^ 31 * 2 ^ 32)
unfolding signed
signed_word x h =
    let a : x % 2 ^ 32 ≡ x = mod-eq_of_lt h in
    let b : x / 2 ^ 31 % 2 ≡ x / 2 ^ 31 = omega arith in
    rw (a, b)
