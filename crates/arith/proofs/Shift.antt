-- Shifts: what the code works out is what the definitions say. Assumes nothing.
use Rattle.std.proofs.Common.{◌≡◌, ℕ, zero, suc, ◌+◌, ◌-◌, ◌*◌, ◌/◌, ◌%◌, ◌^◌, ◌<◌, ◌≤◌, pos, negsuc, sym, ap, ◌∙◌, ap₂, le_trans, le_of_eq, add-zero, mod-lt, mod-eq_of_lt, mul_comm, add-mul, add_comm, one-mul, div-add-mod', le-mul_of_pos_right, div-one, arith, pow_pos, pow-add, shr_lt}
use native.Mathlib.Nat.{mul-mod_left}
use lib.Arith.{mod-mul, digits_div}
use lib.Bits.{bit_or, or_comm, or_self, or_shifted}
use lib.Pow.{shl-shr, shr_le}
use lib.Signed.{shr_z}
use Rattle.bits.specs.Word.{word}
use Rattle.bits.proofs.Extend.{signed_low, signed_high, by_half}
use Rattle.arith.specs.Shift.{shift_right_signed, rotate_right}

-- the powers of k and of what is left of 32 make 2 ^ 32
pow_both : (k : ℕ) → k < 32 → 2 ^ 32 ≡ 2 ^ k * 2 ^ (32 - k)
pow_both k h =
    let e : 32 ≡ k + (32 - k) = omega arith in
    ap (λ n. 2 ^ n) e ∙ pow-add 2 k (32 - k)

shifted_lt : (x k : ℕ) → x < 2 ^ 32 → k < 32 → x / 2 ^ k < 2 ^ (32 - k)
shifted_lt x k g h = shr_lt (32 - k) k (rw (add_comm (32 - k) k, pow-add 2 k (32 - k), ← pow_both k h) g)

-- ---- the arithmetic shift

module _ (x n : ℕ) where
  sra_low : x < 2 ^ 31 → x / 2 ^ (n % 32) ≡ shift_right_signed x n
  unfolding shift_right_signed word
  sra_low h =
      let m = 2 ^ (n % 32) in
      let a : x % 2 ^ 32 ≡ x = omega arith in
      let l : x / m ≤ x = shr_le x (n % 32) in
      let e : x / m < 2 ^ 32 = omega arith in
      sym (ap (λ z. word (shr_z z m)) (signed_low 32 x (omega arith) (omega arith) ∙ ap pos a) ∙ mod-eq_of_lt e)

  sra_high : 2 ^ 31 ≤ x → x < 2 ^ 32 → 2 ^ 32 - 1 - (2 ^ 32 - 1 - x) / 2 ^ (n % 32) ≡ shift_right_signed x n
  unfolding shift_right_signed word
  sra_high h g =
      let m = 2 ^ (n % 32) in
      let y = 2 ^ 32 - 1 - x in
      let a : 2 ^ 32 - suc (x % 2 ^ 32) ≡ y = omega arith in
      let l : y / m ≤ y = shr_le y (n % 32) in
      let e : y / m < 2 ^ 32 = omega arith in
      sym (ap (λ z. word (shr_z z m)) (signed_high 32 x (omega arith) (omega arith) ∙ ap negsuc a) ∙ ap (λ k. 2 ^ 32 - 1 - k) (mod-eq_of_lt e))

  module _ (g : x < 2 ^ 32) where
    -- the logical shift, with copies of the sign in the places that it leaves
    pub sra_fill : shift_right_signed x n ≡ x / 2 ^ (n % 32) + x / 2 ^ 31 * (2 ^ 32 - 2 ^ (32 - n % 32))
    sra_fill =
        by_half 32 x (omega arith) (shift_right_signed x n ≡ x / 2 ^ (n % 32) + x / 2 ^ 31 * (2 ^ 32 - 2 ^ (32 - n % 32)))
        (λ l.
        let z : x / 2 ^ 31 ≡ 0 = omega arith in
        sym (sra_low (omega arith)) ∙ sym (ap (λ t. x / 2 ^ (n % 32) + t * (2 ^ 32 - 2 ^ (32 - n % 32))) z ∙ none (x / 2 ^ (n % 32)) (2 ^ 32 - 2 ^ (32 - n % 32))))
        (λ l.
        let z : x / 2 ^ 31 ≡ 1 = omega arith in
        sym (sra_high (omega arith) g) ∙ filled (n % 32) (omega arith) ∙ sym (ap (λ t. x / 2 ^ (n % 32) + t * (2 ^ 32 - 2 ^ (32 - n % 32))) z))
      where
        none : (u w : ℕ) → u + 0 * w ≡ u
        none u w = omega arith

        rest : (m p q r : ℕ) → q < m → r < p → q * p + r ≡ x → m * p ≡ 2 ^ 32 → (m - 1 - q) * p + (p - 1 - r) ≡ 2 ^ 32 - 1 - x
        rest m p q r hq hr ex em =
            let d = m - 1 - q in
            let s : m ≡ d + q + 1 = omega arith in
            let t : (d + q + 1) * p ≡ d * p + q * p + p = add-mul (d + q) 1 p ∙ ap₂ ◌+◌ (add-mul d q p) (one-mul p) in
            let u : d * p + q * p + p ≡ 2 ^ 32 = sym t ∙ ap (λ k. k * p) (sym s) ∙ em in
            omega arith

        end : (m q : ℕ) → q < m → m ≤ 2 ^ 32 → 2 ^ 32 - 1 - (m - 1 - q) ≡ q + 1 * (2 ^ 32 - m)
        end m q h l = omega arith

        filled : (k : ℕ) → k < 32 → 2 ^ 32 - 1 - (2 ^ 32 - 1 - x) / 2 ^ k ≡ x / 2 ^ k + 1 * (2 ^ 32 - 2 ^ (32 - k))
        filled k h =
            let p = 2 ^ k in
            let m = 2 ^ (32 - k) in
            let q = x / p in
            let r = x % p in
            let hp : 0 < p = pow_pos k in
            let em : m * p ≡ 2 ^ 32 = mul_comm m p ∙ sym (pow_both k h) in
            let hq : q < m = shifted_lt x k g h in
            let hr : r < p = mod-lt x hp in
            let er : (m - 1 - q) * p + (p - 1 - r) ≡ 2 ^ 32 - 1 - x = rest m p q r hq hr (div-add-mod' x p) em in
            let ed : (2 ^ 32 - 1 - x) / p ≡ m - 1 - q = ap (λ t. t / p) (sym er) ∙ digits_div (m - 1 - q) {m = p} {r = p - 1 - r} (omega arith) in
            ap (λ t. 2 ^ 32 - 1 - t) ed ∙ end m q hq (le_trans (le-mul_of_pos_right m hp) (le_of_eq em))

-- ---- rotation

-- what a shift left by 32 - k keeps
shl_kept : (x k : ℕ) → k < 32 → x * 2 ^ (32 - k) % 2 ^ 32 ≡ x % 2 ^ k * 2 ^ (32 - k)
shl_kept x k h =
    let c = 2 ^ (32 - k) in
    ap (λ n. x * c % n) (pow_both k h)
    ∙ mod-mul (x * c) {m = 2 ^ k} {c = c} (pow_pos k) (pow_pos (32 - k))
    ∙ ap₂ (λ u v. u % 2 ^ k * c + v) (shl-shr x (32 - k)) (mul-mod_left x c)
    ∙ add-zero _

rotated : (x k : ℕ) → x < 2 ^ 32 → k < 32 → bit_or (x * 2 ^ ((32 - k) % 32) % 2 ^ 32) (x / 2 ^ k) ≡ x % 2 ^ k * 2 ^ (32 - k) + x / 2 ^ k
rotated x zero g h =
    let e : x * 1 % 2 ^ 32 ≡ x = omega arith in
    let z : x % 1 * 2 ^ 32 + x ≡ x = omega arith in
    ap₂ bit_or e (div-one x) ∙ or_self x ∙ sym (ap (λ n. x % 1 * 2 ^ 32 + n) (div-one x) ∙ z)
rotated x (suc k) g h =
    let e : (32 - suc k) % 32 ≡ 32 - suc k = omega arith in
    ap (λ n. bit_or n (x / 2 ^ suc k)) (ap (λ n. x * 2 ^ n % 2 ^ 32) e ∙ shl_kept x (suc k) h)
    ∙ or_shifted (x % 2 ^ suc k) (32 - suc k) (x / 2 ^ suc k) (shifted_lt x (suc k) g h)

pub ror_or : (x n : ℕ) → x < 2 ^ 32 → bit_or (x / 2 ^ (n % 32)) (x * 2 ^ ((32 - n % 32) % 32) % 2 ^ 32) ≡ rotate_right x n
unfolding rotate_right
ror_or x n g = or_comm (x / 2 ^ (n % 32)) (x * 2 ^ ((32 - n % 32) % 32) % 2 ^ 32) ∙ rotated x (n % 32) g (omega arith)
