-- What begins on a core's own words begins on the states: own is those words, and own' what is left of them. Assumes nothing.
use mathlib.Core.Bool.{Bool, true, false}
use mathlib.Core.List.{List}
use mathlib.Core.Path.{◌≡◌, sym, ap, ◌∙◌}
use Prim.Native.Nat.{ℕ, ◌+◌, ◌*◌, ◌≤◌}
use native.Mathlib.Omega.{arith}
use lib.ListN.{length}
use Rattle.std.specs.Prelude.{if◌then◌else◌}
use Rattle.std.specs.declared.option.Option.{Option}
use Rattle.std.specs.declared.option.Option.TheVariants.{None}
use Rattle.effect.specs.State.{state_words, own_words, with_own_words, mode_at, picsr_at}
use Rattle.commit.specs.Commit.{word_at}
use Rattle.commit.proofs.Own.{own_length, own_word_at, own_same, own_words_of, own_again}
use Rattle.pic.specs.Interrupt.{latched}
use Rattle.pic.proofs.Latched.{length_latched, interrupted_own, latched_own, own_latched}
use Rattle.steps.specs.Plain.{is_running}
use Rattle.steps.specs.Inner.{Undisturbed, alone, begun, start_of}
use Rattle.steps.specs.declared.Scheduled.{Scheduled}
use Rattle.steps.specs.declared.Start.{Start}
use Rattle.steps.proofs.Cases.{begun_length}

module _ (s : List ℕ) (entry : Scheduled) (h : entry.core * state_words + state_words ≤ length s) {own : List ℕ} (o : own ≡ own_words s entry.core) where
  mode_here : word_at own 0 mode_at ≡ word_at s entry.core mode_at
  mode_here = ap (λ (own : List ℕ). word_at own 0 mode_at) o ∙ own_word_at s entry.core h mode_at (omega arith)

  pub undisturbed_here : {m : ℕ} → (word_at s entry.core mode_at ≡ m → Undisturbed s entry) → word_at own 0 mode_at ≡ m → Undisturbed own (alone entry.lines)
  undisturbed_here u e =
      let d = u (sym mode_here ∙ e) in
      record {
        runs = mode_here ∙ d.runs;
        low = d.low;
        unlatched = ap (λ (own : List ℕ). word_at own 0 picsr_at) o ∙ own_word_at s entry.core h picsr_at (omega arith) ∙ d.unlatched;
      }

  pub start_here : (given : Option ℕ) {r : Start} → r ≡ start_of own (alone entry.lines) given → r ≡ start_of s entry given
  start_here given p =
      let n : length (latched s entry.core entry.lines) ≡ length s = length_latched s entry.core entry.lines in
      p ∙ rw (o, own_word_at s entry.core h mode_at (omega arith), ← own_latched s entry.core h entry.lines, interrupted_own (latched s entry.core entry.lines) entry.core (omega arith))

  module _ {own' : List ℕ} (b : own' ≡ begun own (alone entry.lines)) where
    begun_with : with_own_words s entry.core own' ≡ begun s entry
    begun_with = rw (b, o, own_word_at s entry.core h mode_at (omega arith)) (go (is_running s entry.core))
      where
        go : (r : Bool) → with_own_words s entry.core (if r then latched (own_words s entry.core) 0 entry.lines else own_words s entry.core)
            ≡ (if r then latched s entry.core entry.lines else s)
        go true = latched_own s entry.core h entry.lines
        go false = own_same s entry.core h

    words : length own' ≡ state_words
    words = begun_length own (alone entry.lines) None b ∙ ap length o ∙ own_length s entry.core h

    -- the states, however they are left
    pub begun_here : {s' : List ℕ} → s' ≡ with_own_words s entry.core own' → s' ≡ begun s entry
    begun_here w = w ∙ begun_with

    pub begun_words : own' ≡ own_words (begun s entry) entry.core
    begun_words = sym (own_words_of s entry.core h own' words) ∙ ap (λ (t : List ℕ). own_words t entry.core) begun_with

    pub begun_again : (own'' : List ℕ) {s' : List ℕ} → s' ≡ with_own_words s entry.core own'' → s' ≡ with_own_words (begun s entry) entry.core own''
    begun_again own'' w = w ∙ sym (own_again s entry.core h own' words own'') ∙ ap (λ (t : List ℕ). with_own_words t entry.core own'') begun_with
