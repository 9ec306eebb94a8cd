-- What the look before a run's first entry says. Assumes nothing.
use mathlib.Core.Bool.{true, ◌&&◌}
use mathlib.Core.List.{List, [], ◌∷◌}
use mathlib.Core.Path.{◌≡◌, refl}
use Prim.Native.Nat.{ℕ, zero, suc, ◌+◌, ◌<◌, ◌≤◌}
use native.Mathlib.Omega.{arith}
use lib.Bits.{bit_or, and_le_l, and_le_r, or_add_and}
use lib.Dec.{T, eqb, eqb→eq}
use Rattle.std.specs.List.{fold, list_all, range_with_len}
use Rattle.bits.proofs.Tests.{and_left, and_right, T_of}
use Rattle.bits.proofs.Cases.{by_equality}
use Rattle.effect.specs.State.{picsr_at}
use Rattle.commit.specs.Commit.{word_at, core_count}
use Rattle.pic.specs.Inner.{none_latched, is_quiet, NoneLatched, NoneHigh}

-- no bit of either
left_zero : (a b : ℕ) → bit_or a b ≡ 0 → a ≡ 0
left_zero a b h = omega (arith, or_add_and a b, and_le_r a b)

right_zero : (a b : ℕ) → bit_or a b ≡ 0 → b ≡ 0
right_zero a b h = omega (arith, or_add_and a b, and_le_l a b)

-- ---- levels

low_too : (lines : ℕ) (levels : List ℕ) → lines ≡ 0 → NoneHigh levels → NoneHigh (lines ∷ levels)
low_too lines levels h g zero = h
low_too lines levels h g (suc i) = g i

joined_zero : (lines : ℕ) (levels : List ℕ) → fold bit_or lines levels ≡ 0 → (lines ≡ 0) × NoneHigh levels
joined_zero lines [] h = (h, λ i. refl)
joined_zero lines (more ∷ levels) h =
    let rest = joined_zero (bit_or lines more) levels h in
    (left_zero lines more rest.0, low_too more levels (right_zero lines more rest.0) rest.1)

-- ---- cores

latched_at : (s : List ℕ) (a n : ℕ) → T (list_all (λ core. eqb (word_at s core picsr_at) 0) (range_with_len a n)) → (core : ℕ) → a ≤ core → core < a + n
    → word_at s core picsr_at ≡ 0
latched_at s a zero t core g l = absurd (omega arith)
latched_at s a (suc n) t core g l =
    let first = eqb (word_at s a picsr_at) 0 in
    let rest = list_all (λ core. eqb (word_at s core picsr_at) 0) (range_with_len (a + 1) n) in
    by_equality core a (λ e. rw e (eqb→eq _ 0 (and_left first rest t))) (λ e. latched_at s (a + 1) n (and_right first rest t) core (omega arith) (omega arith))

-- ---- both

module _ (s levels : List ℕ) (h : is_quiet s levels ≡ true) where
  tests : T (eqb (fold bit_or 0 levels) 0 && none_latched s)
  unfolding is_quiet
  tests = T_of (is_quiet s levels) h

  pub quiet_latched : NoneLatched s
  unfolding none_latched
  quiet_latched core l = latched_at s 0 (core_count s) (and_right (eqb (fold bit_or 0 levels) 0) (none_latched s) tests) core (omega arith) (omega arith)

  pub quiet_low : NoneHigh levels
  quiet_low = (joined_zero 0 levels (eqb→eq (fold bit_or 0 levels) 0 (and_left (eqb (fold bit_or 0 levels) 0) (none_latched s) tests))).1
