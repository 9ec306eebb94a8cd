-- Products and quotients: what the code works out is what the definitions say. Assumes nothing.
use Rattle.std.proofs.Common.{◌≡◌, ℕ, suc, ◌+◌, ◌-◌, ◌*◌, ◌%◌, ◌^◌, ◌<◌, ◌≤◌, Bool, true, false, le-leb, leb, pos, ◌*ℤ◌, neg_ℤ, sym, refl, ap, ◌∙◌, ap₂, mul_comm, mul-add, arith}
use borrow.Author.Tests.{lt-leb}
use Rattle.std.specs.Bool.{FalseIff}
use Rattle.bits.specs.Word.{signed, word}
use Rattle.arith.proofs.Signed.{cast_back, cast_wide, overflowed, word_lt}
use Rattle.product.specs.Product.{product, product_unsigned, quotient}
use Rattle.product.proofs.Signs.{word_neg, by_signs}

-- ---- for callers: a result is a word; its flags are booleans

pub product_ranged : (a b : ℕ) → (product a b).value < 2 ^ 32
unfolding product
product_ranged a b = word_lt (signed 32 a *ℤ signed 32 b)

pub product_unsigned_ranged : (a b : ℕ) → (product_unsigned a b).value < 2 ^ 32
unfolding product_unsigned
product_unsigned_ranged a b = omega arith

-- ---- "For l.div 80000000 by ffffffff gives 80000000."

pub least_by_minus_one : quotient 0x80000000 0xffffffff ≡ 0x80000000
unfolding quotient word signed
least_by_minus_one = refl

-- ---- the low 32 bits of the signed product are those of the unsigned one

one_negative : (a b n : ℕ) → n + b ≡ 2 ^ 32 → word (neg_ℤ (pos (a * n))) ≡ a * b % 2 ^ 32
one_negative a b n e =
    let f : a * n + a * b ≡ a * 2 ^ 32 = sym (mul-add a n b) ∙ ap (λ k. a * k) e in
    let g : (2 ^ 32 - a * n % 2 ^ 32) % 2 ^ 32 ≡ a * b % 2 ^ 32 = omega arith in
    word_neg (a * n) ∙ g

two_negative : (a b m n : ℕ) → m + a ≡ 2 ^ 32 → n + b ≡ 2 ^ 32 → m * n % 2 ^ 32 ≡ a * b % 2 ^ 32
two_negative a b m n e f =
    let p : (m + a) * (n + b) ≡ 2 ^ 32 * 2 ^ 32 = ap₂ ◌*◌ e f in
    let q : (m + a) * n ≡ 2 ^ 32 * n = ap (λ k. k * n) e in
    let r : m * (n + b) ≡ m * 2 ^ 32 = ap (λ k. m * k) f in
    omega arith

pub word_product : (a b : ℕ) → a < 2 ^ 32 → b < 2 ^ 32 → word (signed 32 a *ℤ signed 32 b) ≡ a * b % 2 ^ 32
unfolding word
word_product a b ha hb =
    let m = suc (2 ^ 32 - suc a) in
    let n = suc (2 ^ 32 - suc b) in
    let ea : m + a ≡ 2 ^ 32 = omega arith in
    let eb : n + b ≡ 2 ^ 32 = omega arith in
    by_signs a ha (word (signed 32 a *ℤ signed 32 b) ≡ a * b % 2 ^ 32)
    (λ _ _ x.
    by_signs b hb (word (signed 32 a *ℤ signed 32 b) ≡ a * b % 2 ^ 32)
    (λ _ _ y. rw (x, y))
    (λ _ _ y. rw (x, y) (one_negative a b n eb)))
    (λ _ _ x.
    by_signs b hb (word (signed 32 a *ℤ signed 32 b) ≡ a * b % 2 ^ 32)
    (λ _ _ y. rw (x, y) (ap (λ k. word (neg_ℤ (pos k))) (mul_comm m b) ∙ one_negative b a m ea ∙ ap (λ k. k % 2 ^ 32) (mul_comm b a)))
    (λ _ _ y. rw (x, y) (two_negative a b m n ea eb)))

pub product_low : (a b : ℕ) → a < 2 ^ 32 → b < 2 ^ 32 → (product a b).value ≡ a * b % 2 ^ 32
unfolding product
product_low a b ha hb = word_product a b ha hb

-- ---- what does not fit in 32 bits

pub carried : (p : ℕ) (u : Bool) → FalseIff u (p < 2 ^ 32) → u ≡ leb (2 ^ 32) p
carried p true h = let k : 2 ^ 32 ≤ p = omega arith in sym (le-leb _ _ k)
carried p false h = sym (lt-leb _ _ h)

-- ---- what the code's functions cite

pub ruleset multiplying = (word_product, overflowed, cast_back)

pub ruleset extending = (product_low, cast_back, cast_wide)
