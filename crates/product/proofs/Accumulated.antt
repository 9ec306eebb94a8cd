-- The accumulator: what the code works out is what the definitions say. Assumes nothing.
use Rattle.std.proofs.Common.{◌≡◌, ℕ, zero, suc, ◌+◌, ◌-◌, ◌/◌, ◌%◌, ◌^◌, ◌<◌, ℤ, pos, negsuc, ◌+ℤ◌, ◌-ℤ◌, neg_ℤ, sym, refl, ap, ◌∙◌, arith}
use Rattle.bits.specs.Word.{modulo}
use Rattle.arith.proofs.Integer.{by_sign}
use Rattle.product.specs.Accumulate.{holding}
use Rattle.product.specs.declared.Accumulator.{Accumulator}

-- a sum and a difference modulo 2 ^ 64, by what the summand is modulo 2 ^ 64
modulo_add : (n : ℕ) (z : ℤ) → modulo 64 (pos n +ℤ z) ≡ (n + modulo 64 z) % 2 ^ 64
modulo_add n (pos k) = omega arith
modulo_add n (negsuc k) =
    by_sign n (suc k) (λ z. modulo 64 z ≡ (n + (2 ^ 64 - 1 - k % 2 ^ 64)) % 2 ^ 64) (λ h. omega arith) (λ h. omega arith)

modulo_neg : (z : ℤ) → (modulo 64 (neg_ℤ z) + modulo 64 z) % 2 ^ 64 ≡ 0
modulo_neg (pos zero) = refl
modulo_neg (pos (suc n)) = omega arith
modulo_neg (negsuc n) = omega arith

abbrev pub parts : ℕ → Accumulator
parts k = record { high = k / 2 ^ 32; low = k % 2 ^ 32 }

held : (r : ℕ) (z : ℤ) → r % 2 ^ 64 ≡ modulo 64 z → holding (pos r) ≡ holding z
held r z e = ap parts e

pub held_sum : (n t r : ℕ) (z : ℤ) → t ≡ modulo 64 z → r ≡ (n + t) % 2 ^ 64 → holding (pos r) ≡ holding (pos n +ℤ z)
held_sum n t r z e f =
    let g : r % 2 ^ 64 ≡ (n + modulo 64 z) % 2 ^ 64 = omega arith in
    held r (pos n +ℤ z) (g ∙ sym (modulo_add n z))

pub held_difference : (n t r : ℕ) (z : ℤ) → t < 2 ^ 64 → t ≡ modulo 64 z → r ≡ (n + (2 ^ 64 - t)) % 2 ^ 64 → holding (pos r) ≡ holding (pos n -ℤ z)
held_difference n t r z h e f =
    let o : (modulo 64 (neg_ℤ z) + modulo 64 z) % 2 ^ 64 ≡ 0 = modulo_neg z in
    let g : r % 2 ^ 64 ≡ (n + modulo 64 (neg_ℤ z)) % 2 ^ 64 = omega arith in
    held r (pos n -ℤ z) (g ∙ sym (modulo_add n (neg_ℤ z)))
