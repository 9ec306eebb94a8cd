-- A test at every number below n, as a loop makes it. Assumes nothing.
use Rattle.std.proofs.Common.{◌≡◌, ℕ, zero, suc, ◌+◌, ◌<◌, Bool, true, false, T, add-one, arith}
use mathlib.Core.Bool.{and-false}
use Rattle.bits.specs.Every.{every_below}
use Rattle.bits.proofs.Tests.{and_left, and_right, and_both}
use Rattle.bits.proofs.Cases.{by_equality}

module _ (f : ℕ → Bool) where
  pub below_next : (i : ℕ) → every_below i f ≡ true → f i ≡ true → every_below (i + 1) f ≡ true
  unfolding every_below
  below_next i h g = rw (add-one, h, g)

  pub below_stop : (n i : ℕ) → i < n → f i ≡ false → every_below n f ≡ false
  unfolding every_below
  below_stop zero i h g = absurd (omega arith)
  below_stop (suc n) i h g =
      by_equality i n (λ q. rw (← q, g) (and-false (every_below i f))) (λ q. rw (below_stop n i (omega arith) g))

  pub below_at : (n : ℕ) → T (every_below n f) → (i : ℕ) → i < n → T (f i)
  unfolding every_below
  below_at zero t i h = absurd (omega arith)
  below_at (suc n) t i h =
      by_equality i n (λ q. rw q (and_right (every_below n f) (f n) t)) (λ q. below_at n (and_left (every_below n f) (f n) t) i (omega arith))

  pub of_below : (n : ℕ) → ((i : ℕ) → i < n → T (f i)) → T (every_below n f)
  unfolding every_below
  of_below zero g = tt
  of_below (suc n) g = and_both (every_below n f) (f n) (of_below n (λ i h. g i (omega arith))) (g n (omega arith))
