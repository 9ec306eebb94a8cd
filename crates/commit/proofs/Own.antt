-- A core's own words as a part of all states: what is read of them, and what a commit to them leaves. Assumes nothing.
use mathlib.Core.Bool.{Bool, true, false}
use mathlib.Core.List.{List, ◌++◌}
use mathlib.Core.Path.{◌≡◌, sym, ap, ap₂, ◌∙◌}
use Prim.Native.Nat.{ℕ, ◌+◌, ◌*◌, ◌≤◌, ◌<◌}
use native.Mathlib.Nat.{zero-add}
use native.Mathlib.Omega.{arith}
use lib.Dec.{eqb}
use lib.ListN.{length, take, drop, get_or, set, length-set, length-drop, take-append-drop}
use lib.Seq.{length-take-le, get_or-take, get_or-drop, set-append_left, take_at, drop_at}
use Rattle.bits.proofs.Lists.{set_append_add}
use Rattle.std.specs.Prelude.{Option, Some, None, Ok, Err, if◌then◌else◌}
use Rattle.isa.specs.Register.{Registers}
use Rattle.isa.specs.declared.entry.Fields.{Fields}
use Rattle.effect.specs.State.{state_words, own_words, with_own_words, pc_at, delay_at, target_at, sr_at, epcr_at, eear_at, esr_at, link_at, link_address_at, mode_at, machi_at, maclo_at, picmr_at, picsr_at}
use Rattle.effect.specs.Effect.{Outcome}
use Rattle.effect.specs.declared.types.Effect.{Effect}
use Rattle.product.specs.declared.Accumulator.{Accumulator}
use Rattle.commit.specs.Commit.{word_at, put, reads, inputs, put_value, put_flow, put_status, put_accumulated, put_exception, own_state}
use Rattle.commit.specs.Inner.{own_inputs}

-- what is read is settled by the words of one state
reads_as : {w w' : ℕ → ℕ} → ((i : ℕ) → i < state_words → w i ≡ w' i) → (core : ℕ) (f : Fields) → Registers f → reads core w f ≡ reads core w' f
reads_as h core f r =
    simp (
      h f.a (omega (arith, r.a)),
      h f.b (omega (arith, r.b)),
      h pc_at (omega arith),
      h delay_at (omega arith),
      h target_at (omega arith),
      h sr_at (omega arith),
      h epcr_at (omega arith),
      h eear_at (omega arith),
      h esr_at (omega arith),
      h link_at (omega arith),
      h link_address_at (omega arith),
      h machi_at (omega arith),
      h maclo_at (omega arith),
      h picmr_at (omega arith),
      h picsr_at (omega arith),
    )

module _ (s : List ℕ) (core : ℕ) (h : core * state_words + state_words ≤ length s) where
  pub own_length : length (own_words s core) ≡ state_words
  own_length = length-take-le state_words (drop (core * state_words) s) (simp length-drop (omega arith))

  pub own_word_at : (i : ℕ) → i < state_words → get_or (own_words s core) i 0 ≡ word_at s core i
  own_word_at i l = get_or-take state_words (drop (core * state_words) s) i 0 l ∙ get_or-drop (core * state_words) s i 0

  pub own_inputs_at : (f : Fields) → Registers f → own_inputs (own_words s core) core f ≡ inputs s core f
  unfolding inputs
  own_inputs_at f r = reads_as own_word_at core f r

  -- t stands in s' as the core's words, and the rest of s' is that of s
  record Stands (t s' : List ℕ) : Type 0 where
    words : length t ≡ state_words
    whole : with_own_words s core t ≡ s'

  at_first : Stands (own_words s core) s
  at_first = record {
    words = own_length;
    whole = ap (λ (t : List ℕ). take (core * state_words) s ++ t) (take-append-drop state_words (drop (core * state_words) s)) ∙ take-append-drop (core * state_words) s;
  }

  stands_put : {t s' : List ℕ} (place v : ℕ) → place < state_words → Stands t s' → Stands (put t 0 place v) (put s' core place v)
  stands_put {t} {s'} place v l d =
      let b : List ℕ = take (core * state_words) s in
      let r : List ℕ = drop state_words (drop (core * state_words) s) in
      let n : length b ≡ core * state_words = length-take-le (core * state_words) s (omega arith) in
      record {
        words = length-set t (0 * state_words + place) v ∙ d.words;
        whole =
            ap (λ (i : ℕ). b ++ (set t i v ++ r)) (zero-add place)
            ∙ ap (λ (q : List ℕ). b ++ q) (sym (set-append_left t r place v (omega (arith, d.words, l))))
            ∙ sym (set_append_add b (t ++ r) place v)
            ∙ ap (λ (i : ℕ). set (b ++ (t ++ r)) (i + place) v) n
            ∙ ap (λ (q : List ℕ). set q (core * state_words + place) v) d.whole;
      }

  stands_value : (e : Effect) → e.place < state_words → {t s' : List ℕ} → Stands t s' → Stands (put_value t 0 e) (put_value s' core e)
  unfolding put_value
  stands_value e l {t} {s'} d = go (eqb e.place 0)
    where
      go : (b : Bool) → Stands (if b then t else put t 0 e.place e.value) (if b then s' else put s' core e.place e.value)
      go true = d
      go false = stands_put e.place e.value l d

  stands_accumulated : (a : Option Accumulator) {t s' : List ℕ} → Stands t s' → Stands (put_accumulated a t 0) (put_accumulated a s' core)
  unfolding put_accumulated
  stands_accumulated None d = d
  stands_accumulated (Some m) d = stands_put maclo_at m.low (omega arith) (stands_put machi_at m.high (omega arith) d)

  stands_exception : (vectors : List ℕ) (o : Outcome) {t s' : List ℕ} → Stands t s' → Stands (put_exception vectors o t 0) (put_exception vectors o s' core)
  unfolding put_exception
  stands_exception vectors (Ok u) d = d
  stands_exception vectors (Err x) d =
      stands_put esr_at x.esr (omega arith) (stands_put eear_at x.eear (omega arith) (stands_put epcr_at x.epcr (omega arith) (stands_put pc_at _ (omega arith) d)))

  stands_flow : (e : Effect) {t s' : List ℕ} → Stands t s' → Stands (put_flow t 0 e) (put_flow s' core e)
  unfolding put_flow
  stands_flow e d =
      stands_put target_at _ (omega arith) (stands_put delay_at _ (omega arith) (stands_put pc_at _ (omega arith) d))

  stands_status : (e : Effect) {t s' : List ℕ} → Stands t s' → Stands (put_status t 0 e) (put_status s' core e)
  unfolding put_status
  stands_status e d =
      stands_put mode_at _ (omega arith) (stands_put link_address_at _ (omega arith) (stands_put link_at _ (omega arith) (stands_put sr_at _ (omega arith) d)))

  -- a commit to the core's own words is a commit to the states
  pub own_committed : (vectors : List ℕ) {t : List ℕ} (e : Effect) → e.place < state_words → t ≡ own_state vectors (own_words s core) 0 e → with_own_words s core t ≡ own_state vectors s core e
  unfolding own_state
  own_committed vectors e l p =
      ap (with_own_words s core) p
      ∙ (stands_exception vectors e.outcome (stands_accumulated e.accumulated (stands_status e (stands_flow e (stands_value e l at_first))))).whole

  -- ---- any words in their place, and a word of them

  pub own_same : with_own_words s core (own_words s core) ≡ s
  own_same = at_first.whole

  pub own_put : (place v : ℕ) → place < state_words → with_own_words s core (put (own_words s core) 0 place v) ≡ put s core place v
  own_put place v l = (stands_put place v l at_first).whole

  module _ (t : List ℕ) (n : length t ≡ state_words) where
    from_own : drop (core * state_words) (with_own_words s core t) ≡ t ++ drop state_words (drop (core * state_words) s)
    from_own = drop_at (take (core * state_words) s) (t ++ drop state_words (drop (core * state_words) s)) (core * state_words) (length-take-le (core * state_words) s (omega arith))

    pub own_words_of : own_words (with_own_words s core t) core ≡ t
    own_words_of = ap (take state_words) from_own ∙ take_at t (drop state_words (drop (core * state_words) s)) state_words n

    pub own_again : (t' : List ℕ) → with_own_words (with_own_words s core t) core t' ≡ with_own_words s core t'
    own_again t' =
        ap₂ (λ (b r : List ℕ). b ++ (t' ++ r))
        (take_at (take (core * state_words) s) (t ++ drop state_words (drop (core * state_words) s)) (core * state_words) (length-take-le (core * state_words) s (omega arith)))
        (ap (drop state_words) from_own ∙ drop_at t (drop state_words (drop (core * state_words) s)) state_words n)

-- ---- the words of one state that a longer list begins with, whatever core's they are

-- an instruction reads there what it reads in the list
pub first_inputs : (own : List ℕ) → state_words ≤ length own → (core : ℕ) (f : Fields) → Registers f → own_inputs (own_words own 0) core f ≡ own_inputs own core f
first_inputs own h core f r = reads_as (λ i l. own_word_at own 0 h i l ∙ ap (λ (i : ℕ). get_or own i 0) (zero-add i)) core f r
