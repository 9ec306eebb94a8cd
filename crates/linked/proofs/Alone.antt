-- A run in which no core is linked: each entry is its own core's alone. Assumes nothing.
use Rattle.std.proofs.Common.{◌≡◌, ℕ, zero, suc, ◌+◌, ◌-◌, ◌*◌, ◌<◌, true, false, List, [], ◌∷◌, length, get_or, sym, refl, ap, ◌∙◌, true≢false, arith, eq-eqb, ne_eqb, Bool, ◌≤◌}
use mathlib.Core.Bool.{◌||◌}
use Rattle.bits.proofs.Cases.{if_both, by_equality}
use Rattle.std.specs.List.{list_any, range_with_len}
use Rattle.std.specs.declared.option.Option.TheVariants.{None}
use Rattle.effect.specs.State.{mode_at, linked}
use Rattle.effect.specs.Board.{Board}
use Rattle.effect.specs.declared.types.Effect.{Effect}
use Rattle.commit.specs.Commit.{word_at, core_count, put_value, own_state, writes_memory, touched, states_after}
use Rattle.lawful.specs.Inner.{LawfulVectors, OwnMode, is_halted, is_running_lem, Lawful}
use Rattle.lawful.specs.Accepted.{AllAccepted}
use Rattle.lawful.proofs.Commit.{puts_seen, changes, mode_seen, own_puts, length_value, length_own}
use Rattle.lawful.proofs.Links.{clears_rest}
use Rattle.lawful.proofs.States.{lawful_place, length_states, other_states}
use Rattle.pic.specs.Interrupt.{latched}
use Rattle.pic.proofs.Latched.{length_latched, latched_word, latched_accepted}
use Rattle.steps.specs.Plain.{Plain, scheduled, is_running, plain_effect, plain_after, plain_entry, plain_step}
use Rattle.steps.specs.Fast.{Fast, fast_step}
use Rattle.steps.specs.Inner.{Right, given_from}
use Rattle.steps.specs.declared.Scheduled.{Scheduled}
use Rattle.steps.proofs.Agree.{step_agrees}
use Rattle.steps.proofs.Schedule.{effect_lawful, step_kept, step_length, given_none}
use Rattle.linked.specs.Linked.{is_linked, Shared, followers}
use Rattle.linked.specs.Run.{is_shared, lead_of, after_linked, cached_fetched, fast_linked, fast_from}
use Rattle.linked.specs.Inner.{any_linked, NoneLinked}
use Rattle.linked.specs.declared.follow.Lead.{Lead}

-- ---- whether any core is linked

or_left : (a b : Bool) → (a || b) ≡ false → a ≡ false
or_left true b h = cc
or_left false b h = refl

or_right : (a b : Bool) → (a || b) ≡ false → b ≡ false
or_right true b h = cc
or_right false b h = h

none_at : (s : List ℕ) (a n : ℕ) → list_any (is_linked s) (range_with_len a n) ≡ false → (core : ℕ) → a ≤ core → core < a + n → is_linked s core ≡ false
none_at s a zero h core g l = absurd (omega arith)
none_at s a (suc n) h core g l =
    let rest = list_any (is_linked s) (range_with_len (a + 1) n) in
    by_equality core a (λ e. rw e (or_left (is_linked s a) rest h)) (λ e. none_at s (a + 1) n (or_right (is_linked s a) rest h) core (omega arith) (omega arith))

pub none_linked : (s : List ℕ) → any_linked s ≡ false → NoneLinked s
unfolding any_linked
none_linked s h core l m = true≢false (sym (eq-eqb _ _ m) ∙ none_at s 0 (core_count s) h core (omega arith) (omega arith))

-- then none follows
pub none_follow : (board : Board) (lead : Lead) (n : ℕ) (x : Shared) → n < core_count x.states → NoneLinked x.states → followers board lead n x ≡ x
unfolding followers
none_follow board lead zero x h k = refl
none_follow board lead (suc n) x h k = rw (none_follow board lead n x (omega arith) k, ne_eqb _ _ (k (suc n) h))

-- ---- an effect leaves its core in its mode

module _ (vectors s : List ℕ) (core : ℕ) (e : Effect) where
  mode_own : core < core_count s → word_at (own_state vectors s core e) core mode_at ≡ e.mode
  mode_own h =
      let t = put_value s core e in
      let n : length t ≡ length s = length_value s core e in
      ap (λ (u : List ℕ). word_at u core mode_at) (own_puts vectors s core e)
      ∙ puts_seen (changes vectors e e.accumulated e.outcome) t core mode_at (omega arith) ∙ mode_seen vectors e e.accumulated e.outcome (word_at t core mode_at)

  pub mode_after : core < core_count s → word_at (states_after vectors s core e) core mode_at ≡ e.mode
  unfolding states_after
  mode_after h =
      let t = own_state vectors s core e in
      let l : length t ≡ length s = length_own vectors s core e in
      let o : word_at t core mode_at ≡ e.mode = mode_own h in
      if_both (λ (u : List ℕ). word_at u core mode_at ≡ e.mode) (writes_memory e)
      (clears_rest t (touched e * 4) (core_count s) core mode_at (omega arith) (omega arith) (λ z. omega arith) (λ z. omega arith) ∙ o) o

-- halted or running
not_linked : {m : ℕ} → OwnMode m → m ≡ linked → ⊥
not_linked is_halted z = omega arith
not_linked is_running_lem z = omega arith

pub states_none_linked : (vectors s : List ℕ) (core : ℕ) (e : Effect) {picsr : ℕ} → Lawful picsr e → core < core_count s → NoneLinked s
    → NoneLinked (states_after vectors s core e)
states_none_linked vectors s core e l h n c i m =
    let k : length (states_after vectors s core e) ≡ length s = length_states vectors s core e in
    by_equality c core
    (λ q. not_linked l.mode_lawful (sym (mode_after vectors s core e h) ∙ ap (λ (c : ℕ). word_at (states_after vectors s core e) c mode_at) (sym q) ∙ m))
    (λ q. n c (omega arith) (sym (other_states vectors s core e c mode_at (lawful_place l.word_lawful) q (omega arith) (λ z. omega arith) (λ z. omega arith)) ∙ m))

-- ---- an entry

pub step_none_linked : (board : Board) (p : Plain) (entry : Scheduled) → entry.core < core_count p.states → AllAccepted board p.states
    → NoneLinked p.states → NoneLinked (plain_step board p entry).states
unfolding plain_step plain_entry plain_after
step_none_linked board p entry h a n =
    let t = latched p.states entry.core entry.lines in
    let l : length t ≡ length p.states = length_latched p.states entry.core entry.lines in
    let j : entry.core < core_count t = omega arith in
    if_both (λ (q : Plain). NoneLinked q.states) (is_running p.states entry.core)
    (states_none_linked board.vectors t entry.core (plain_effect board p.memory t entry.core)
    (effect_lawful board p.memory t entry.core j (latched_accepted p.states entry.core entry.lines a)) j
    (λ c i m. n c (omega arith) (sym (latched_word p.states entry.core entry.lines c mode_at (omega arith) (λ z. omega arith)) ∙ m)))
    n

fast_length : (board : Board) (x : Fast) (entry : Scheduled) → Right board x.cache x.plain.memory
    → length (fast_step board x entry).plain.states ≡ length x.plain.states
fast_length board x entry r = rw (step_agrees board x entry r).same_plain (step_length board x.plain entry)

module _ (board : Board) (x : Fast) (entry : Scheduled) (h : entry.core < core_count x.plain.states) (a : AllAccepted board x.plain.states)
    (r : Right board x.cache x.plain.memory) (n : NoneLinked x.plain.states) where
  fast_none_linked : NoneLinked (fast_step board x entry).plain.states
  fast_none_linked = rw (step_agrees board x entry r).same_plain (step_none_linked board x.plain entry h a n)

  pub linked_alone : fast_linked board x entry ≡ fast_step board x entry
  unfolding fast_linked after_linked
  linked_alone =
      let mem = x.plain.memory in
      let s = x.plain.states in
      let z = fast_step board x entry in
      let form = cached_fetched board mem s x.cache in
      let y : Shared = record { memory = z.plain.memory; states = z.plain.states; entries = z.cache } in
      let l : length z.plain.states ≡ length s = fast_length board x entry r in
      let e : after_linked board mem s entry form y ≡ y =
      if_both (λ (u : Shared). u ≡ y) (is_shared board mem s entry form)
      (none_follow board (lead_of form s y.states) (core_count s - 1) y (omega arith) fast_none_linked) refl in
      rw e

-- ---- a run

pub from_alone : (board : Board) → LawfulVectors board.vectors → (schedule levels : List ℕ) (x : Fast)
    → ((i : ℕ) → i < length schedule → get_or schedule i 0 < core_count x.plain.states) → AllAccepted board x.plain.states
    → Right board x.cache x.plain.memory → NoneLinked x.plain.states
    → fast_from board (scheduled schedule levels) x ≡ given_from board None (scheduled schedule levels) x
unfolding fast_from given_from scheduled
from_alone board v [] levels x names a r n = refl
from_alone board v (core ∷ schedule) [] x names a r n = refl
from_alone board v (core ∷ schedule) (lines ∷ levels) x names a r n =
    let entry : Scheduled = record { core = core; lines = lines } in
    let h : core < core_count x.plain.states = names 0 (omega arith) in
    let kept = step_kept board v x entry h a r refl in
    ap (fast_from board (scheduled schedule levels)) (linked_alone board x entry h a r n)
    ∙ from_alone board v schedule levels (fast_step board x entry) (λ i g. rw (fast_length board x entry r) (names (suc i) (omega arith)))
    kept.0 kept.1 (fast_none_linked board x entry h a r n)
    ∙ ap (given_from board None (scheduled schedule levels)) (sym (given_none board x entry))
