-- What latching leaves in the states. Assumes nothing.
use mathlib.Core.Bool.{false}
use mathlib.Core.List.{List}
use mathlib.Core.Path.{◌≡◌, sym, ap, ◌∙◌}
use Prim.Native.Nat.{ℕ, ◌+◌, ◌*◌, ◌<◌, ◌≤◌}
use native.Mathlib.Omega.{arith}
use lib.Bits.{or_zero_r}
use lib.Dec.{T}
use lib.ListN.{length, length-set}
use lib.Seq.{get_or-set_other, set-get_or}
use borrow.Author.Tests.{eq-eqb}
use Rattle.effect.specs.State.{state_words, own_words, with_own_words, delay_at, sr_at, picmr_at, picsr_at}
use Rattle.effect.specs.Board.{Board}
use Rattle.commit.specs.Commit.{word_at}
use Rattle.commit.proofs.Own.{own_length, own_word_at, own_put, own_words_of}
use Rattle.lawful.specs.Accepted.{AllAccepted}
use Rattle.lawful.proofs.Commit.{ruled, lawful_same}
use Rattle.pic.specs.Interrupt.{latched, is_interrupted}

module _ (s : List ℕ) (core lines : ℕ) where
  pub length_latched : length (latched s core lines) ≡ length s
  unfolding latched
  length_latched = simp length-set

  -- nothing but PICSR changes, of any core
  pub latched_word : (c j : ℕ) → j < state_words → (j ≡ picsr_at → ⊥) → word_at (latched s core lines) c j ≡ word_at s c j
  unfolding latched
  latched_word c j h n = get_or-set_other s (core * state_words + picsr_at) (c * state_words + j) _ 0 (λ z. n (omega arith))

  pub latched_accepted : {board : Board} → AllAccepted board s → AllAccepted board (latched s core lines)
  latched_accepted a c h =
      let l : length (latched s core lines) ≡ length s = length_latched in
      lawful_same (word_at s c) (word_at (latched s core lines) c) (λ j g t. latched_word c j g (λ z. picsr j t z)) (a c (omega arith))
    where
      picsr : (j : ℕ) → T (ruled j) → j ≡ picsr_at → ⊥
      picsr j t z = rw z at t

-- with all lines low nothing changes
pub latch_low : (s : List ℕ) (core : ℕ) → latched s core 0 ≡ s
unfolding latched
latch_low s core = rw (or_zero_r (word_at s core picsr_at)) (set-get_or s (core * state_words + picsr_at) 0)

-- what is not latched does not interrupt
pub none_interrupts : (s : List ℕ) (core : ℕ) → word_at s core picsr_at ≡ 0 → is_interrupted s core ≡ false
unfolding is_interrupted
none_interrupts s core h = rw (eq-eqb _ _ h)

-- ---- on a core's own words, as a board with one core has them

module _ (s : List ℕ) (core : ℕ) (h : core * state_words + state_words ≤ length s) where
  pub interrupted_own : is_interrupted (own_words s core) 0 ≡ is_interrupted s core
  unfolding is_interrupted
  interrupted_own = rw (own_word_at s core h picsr_at (omega arith), own_word_at s core h sr_at (omega arith), own_word_at s core h delay_at (omega arith))

  pub latched_own : (lines : ℕ) → with_own_words s core (latched (own_words s core) 0 lines) ≡ latched s core lines
  unfolding latched
  latched_own lines = rw (own_word_at s core h picsr_at (omega arith), own_word_at s core h picmr_at (omega arith)) (own_put s core h picsr_at _ (omega arith))

  pub own_latched : (lines : ℕ) → own_words (latched s core lines) core ≡ latched (own_words s core) 0 lines
  own_latched lines =
      ap (λ (t : List ℕ). own_words t core) (sym (latched_own lines))
      ∙ own_words_of s core h (latched (own_words s core) 0 lines) (length_latched (own_words s core) 0 lines ∙ own_length s core h)
