-- Sums and orders of integers as sums and orders of natural numbers: an integer is a difference x - p. Assumes nothing.
use Rattle.std.proofs.Common.{◌≡◌, ℕ, zero, suc, ◌+◌, ◌-◌, ◌<◌, ◌≤◌, Bool, true, false, cond, not, ltb, leb, ℤ, pos, negsuc, ◌+ℤ◌, ◌-ℤ◌, neg_ℤ, sym, refl, ap, ◌∙◌, arith, ltb-false, ltb-true, le-leb, leb-false, leb-true}
use lib.IntN.{sub_ℕ}
use lib.Signed.{le_z, lt_z}
use borrow.Author.Tests.{lt-leb}
use Rattle.bits.proofs.Extend.{sub_pos, sub_neg}

-- two tests that say the same
pub leb_same : (a b c d : ℕ) → (a ≤ b → c ≤ d) → (c ≤ d → a ≤ b) → leb a b ≡ leb c d
leb_same a b c d f g = go (leb a b) refl
  where
    go : (t : Bool) → leb a b ≡ t → t ≡ leb c d
    go true e = sym (le-leb c d (f (leb-true _ _ e)))
    go false e = sym (back (leb c d) refl)
      where
        back : (t : Bool) → leb c d ≡ t → t ≡ false
        back true h = let p : a ≤ b = g (leb-true _ _ h) in let q : b < a = leb-false _ _ e in absurd (omega arith)
        back false h = refl

-- less is not at least
pub ltb_not : (a b : ℕ) → ltb a b ≡ not (leb b a)
ltb_not a b = go (ltb a b) refl
  where
    go : (t : Bool) → ltb a b ≡ t → t ≡ not (leb b a)
    go true e = sym (ap not (lt-leb b a (ltb-true a b e)))
    go false e = sym (ap not (le-leb b a (ltb-false a b e)))

pub lt_z_not : (z w : ℤ) → lt_z z w ≡ not (le_z w z)
lt_z_not (pos a) (pos b) = ltb_not a b
lt_z_not (pos a) (negsuc b) = refl
lt_z_not (negsuc a) (pos b) = refl
lt_z_not (negsuc a) (negsuc b) = ltb_not b a

-- what holds of a difference of either sign
pub by_sign : (x p : ℕ) (P : ℤ → Type 0) → (p ≤ x → P (pos (x - p))) → (x < p → P (negsuc (p - suc x))) → P (sub_ℕ x p)
by_sign x p P f g = go (ltb x p) refl
  where
    go : (t : Bool) → ltb x p ≡ t → P (cond t (negsuc (p - suc x)) (pos (x - p)))
    go true e = g (ltb-true _ _ e)
    go false e = f (ltb-false _ _ e)

-- equal differences
pub sub_same : (a b c d : ℕ) → a + d ≡ c + b → sub_ℕ a b ≡ sub_ℕ c d
sub_same a b c d e =
    by_sign a b (λ z. z ≡ sub_ℕ c d)
    (λ h. let q : a - b ≡ c - d = omega arith in ap pos q ∙ sym (sub_pos c d (omega arith)))
    (λ h. let q : b - suc a ≡ d - suc c = omega arith in ap negsuc q ∙ sym (sub_neg c d (omega arith)))

pub sub_zero : (a : ℕ) → pos a ≡ sub_ℕ a 0
sub_zero a = let e : a ≡ a - 0 = omega arith in ap pos e ∙ sym (sub_pos a 0 (omega arith))

sub_negate : (x p : ℕ) → neg_ℤ (sub_ℕ x p) ≡ sub_ℕ p x
sub_negate x p =
    by_sign x p (λ z. neg_ℤ z ≡ sub_ℕ p x)
    (λ h. neg (x - p) ∙ sub_same 0 (x - p) p x (omega arith))
    (λ h. let e : suc (p - suc x) ≡ p - x = omega arith in ap pos e ∙ sym (sub_pos p x (omega arith)))
  where
    neg : (n : ℕ) → neg_ℤ (pos n) ≡ sub_ℕ 0 n
    neg zero = refl
    neg (suc n) = let e : n ≡ suc n - 1 = omega arith in ap negsuc e ∙ sym (sub_neg 0 (suc n) (omega arith))

module _ (x p y q : ℕ) where
  -- the sum of two differences
  pub sub_add : sub_ℕ x p +ℤ sub_ℕ y q ≡ sub_ℕ (x + y) (p + q)
  sub_add =
      by_sign x p (λ z. z +ℤ sub_ℕ y q ≡ sub_ℕ (x + y) (p + q))
      (λ g.
      by_sign y q (λ z. pos (x - p) +ℤ z ≡ sub_ℕ (x + y) (p + q))
      (λ h. sub_zero (x - p + (y - q)) ∙ sub_same (x - p + (y - q)) 0 (x + y) (p + q) (omega arith))
      (λ h. sub_same (x - p) (suc (q - suc y)) (x + y) (p + q) (omega arith)))
      (λ g.
      by_sign y q (λ z. negsuc (p - suc x) +ℤ z ≡ sub_ℕ (x + y) (p + q))
      (λ h. sub_same (y - q) (suc (p - suc x)) (x + y) (p + q) (omega arith))
      (λ h.
      let e : suc (p - suc x + (q - suc y)) ≡ p + q - suc (x + y) = omega arith in
      ap negsuc e ∙ sym (sub_neg (x + y) (p + q) (omega arith))))

  -- the order of two differences
  pub sub_le : le_z (sub_ℕ x p) (sub_ℕ y q) ≡ leb (x + q) (y + p)
  sub_le =
      by_sign x p (λ z. le_z z (sub_ℕ y q) ≡ leb (x + q) (y + p))
      (λ g.
      by_sign y q (λ z. le_z (pos (x - p)) z ≡ leb (x + q) (y + p))
      (λ h. leb_same (x - p) (y - q) (x + q) (y + p) (λ i. omega arith) (λ i. omega arith))
      (λ h. sym (lt-leb (x + q) (y + p) (omega arith))))
      (λ g.
      by_sign y q (λ z. le_z (negsuc (p - suc x)) z ≡ leb (x + q) (y + p))
      (λ h. sym (le-leb (x + q) (y + p) (omega arith)))
      (λ h. leb_same (q - suc y) (p - suc x) (x + q) (y + p) (λ i. omega arith) (λ i. omega arith)))

pub sub_lt : (x p y q : ℕ) → lt_z (sub_ℕ x p) (sub_ℕ y q) ≡ ltb (x + q) (y + p)
sub_lt x p y q = lt_z_not (sub_ℕ x p) (sub_ℕ y q) ∙ ap not (sub_le y q x p) ∙ sym (ltb_not (x + q) (y + p))

-- the difference of two differences
pub sub_sub : (x p y q : ℕ) → sub_ℕ x p -ℤ sub_ℕ y q ≡ sub_ℕ (x + q) (p + y)
sub_sub x p y q = ap (λ z. sub_ℕ x p +ℤ z) (sub_negate y q) ∙ sub_add x p q y
