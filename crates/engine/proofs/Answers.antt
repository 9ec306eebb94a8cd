-- What is not refused can be run, and what a run leaves is not refused; the answer. Assumes nothing.
use mathlib.Core.Bool.{false}
use mathlib.Core.List.{List, []}
use mathlib.Core.Path.{◌≡◌, refl, sym, ap, ap₂, subst, ◌∙◌}
use Prim.Native.Nat.{ℕ, ◌+◌, ◌/◌}
use native.Mathlib.Omega.{arith}
use lib.Dec.{T, eqb, ltb, eqb→eq, leb→le, ltb→lt}
use lib.ListN.{length, get_or}
use borrow.Author.Tests.{eq-eqb, ne_eqb}
use Rattle.bits.proofs.Tests.{T_of}
use Rattle.bits.proofs.Every.{below_at, of_below}
use Rattle.bits.proofs.Cases.{by_equality}
use Rattle.vector_list.proofs.Laws.{fit_seven, fit_multiple}
use Rattle.effect.specs.State.{state_words}
use Rattle.effect.specs.Board.{Board}
use Rattle.commit.specs.Commit.{core_count}
use Rattle.decode_cache.specs.Cache.{form_at}
use Rattle.decode_cache.specs.Inner.{Backed}
use Rattle.lawful.specs.Accepted.{accepted, AllAccepted}
use Rattle.lawful.proofs.Accepted.{accepted_means, means_accepted}
use Rattle.refusal.specs.Lent.{Lent, Left, left, board_of}
use Rattle.refusal.specs.Refusal.{max_schedule, states_obey, schedule_fits, names_cores, levels_fit, cache_fits, entry_right, entries_right, every_from, plain_refusal, fast_refusal, refusal_number}
use Rattle.refusal.specs.declared.cause.Refusal.{Refusal}
use Rattle.refusal.proofs.Tests.{from_at, of_from}
use Rattle.refusal.proofs.Passes.{Passes, CachePasses, plain_passes, fast_then_plain, cache_passes, none_refused, cause_number, cores_fit}
use Rattle.steps.specs.Plain.{Plain, scheduled_by}
use Rattle.steps.specs.Fast.{Fast}
use Rattle.steps.specs.History.{History, entries_from}
use Rattle.steps.specs.Counts.{AtMost, no_counts}
use Rattle.steps.specs.Inner.{fast_of, Runnable, Right}
use Rattle.steps.specs.declared.counts.Counts.{Counts}
use Rattle.steps.proofs.Agree.{Agrees}
use Rattle.steps.proofs.Schedule.{cache_is}
use Rattle.linked.specs.Run.{start, plain_run, history}
use Rattle.linked.specs.Inner.{Finished}
use Rattle.linked.proofs.Agree.{from_agrees, from_uncached, from_accepted}
use Rattle.engine.specs.Answer.{cache_left, again, PlainAnswer, FastAnswer}
use Rattle.std.specs.Prelude.{Ok, Err}

-- ---- what is not refused

obeys_accepted : (board : Board) (s : List ℕ) → T (states_obey board s) → AllAccepted board s
unfolding states_obey
obeys_accepted board s t core h = accepted_means board s core (below_at (accepted board s) (core_count s) t core h)

accepted_obeys : (board : Board) (s : List ℕ) → AllAccepted board s → T (states_obey board s)
unfolding states_obey
accepted_obeys board s a = of_below (accepted board s) (core_count s) (λ core h. means_accepted board s core (a core h))

passes_runnable : (l : Lent) (cache : List ℕ) → Passes l → Backed cache l.memory → Right (board_of l) cache l.memory → Runnable l cache
unfolding schedule_fits names_cores levels_fit
passes_runnable l cache p b r = record {
  few_cores = (cores_fit (length l.states) p.states_fit_lem).1;
  few_entries = leb→le (length l.schedule) max_schedule p.schedule_fits_lem;
  cores_there = λ i h. ltb→lt _ _ (from_at (λ i core. ltb core (core_count l.states)) l.schedule 0 p.names_cores_lem i h);
  one_level_each = eqb→eq (length l.levels) (length l.schedule) p.levels_fit_lem;
  seven_vectors = fit_seven l.vectors p.vectors_fit_lem;
  vectors_lawful = fit_multiple l.vectors p.vectors_fit_lem;
  accepted = obeys_accepted (board_of l) l.states p.states_obey_lem;
  backed = b;
  right = r;
}

-- an empty cache has no entry that could be wrong
pub plain_runnable : (l : Lent) → plain_refusal l ≡ 0 → Runnable l []
plain_runnable l z = passes_runnable l [] (plain_passes l z) (omega arith) (λ k h n. absurd (n refl))

-- a filled entry that passes is its word's form, and back
module _ (board : Board) (mem : List ℕ) (k entry : ℕ) where
  entry_right_lem : T (entry_right board mem k entry) → (entry ≡ 0 → ⊥) → entry ≡ form_at board mem k
  entry_right_lem t n = eqb→eq entry (form_at board mem k) (rw (ne_eqb entry 0 n) at t)

  right_entry : ((entry ≡ 0 → ⊥) → entry ≡ form_at board mem k) → T (entry_right board mem k entry)
  right_entry f =
      by_equality entry 0 (λ q. rw (eq-eqb entry 0 q) tt)
      (λ q. rw (ne_eqb entry 0 q) (T_of (eqb entry (form_at board mem k)) (eq-eqb entry (form_at board mem k) (f q))))

cache_length : (l : Lent) (cache : List ℕ) → CachePasses l cache → length cache ≡ length l.memory / 4
unfolding cache_fits
cache_length l cache p = eqb→eq (length cache) (length l.memory / 4) p.cache_fits_lem

cache_right : (l : Lent) (cache : List ℕ) → CachePasses l cache → Right (board_of l) cache l.memory
unfolding entries_right
cache_right l cache p k h n =
    let z : 0 + k ≡ k = omega arith in
    entry_right_lem (board_of l) l.memory k (get_or cache k 0) (rw z at (from_at (entry_right (board_of l) l.memory) cache 0 p.entries_right_lem k h)) n

right_passes : (l : Lent) (cache : List ℕ) → length cache ≡ length l.memory / 4 → Right (board_of l) cache l.memory → CachePasses l cache
unfolding cache_fits entries_right
right_passes l cache e r = record {
  cache_fits_lem = T_of (eqb (length cache) (length l.memory / 4)) (eq-eqb (length cache) (length l.memory / 4) e);
  entries_right_lem =
      of_from (entry_right (board_of l) l.memory) cache 0
      (λ k h. let z : 0 + k ≡ k = omega arith in rw z (right_entry (board_of l) l.memory k (get_or cache k 0) (r k h)));
}

module _ (l : Lent) (cache : List ℕ) (z : fast_refusal l cache ≡ 0) where
  passes : Passes l
  passes = plain_passes l (fast_then_plain l cache z)

  pub fast_runnable : Runnable l cache
  fast_runnable =
      let p = cache_passes l cache z in
      passes_runnable l cache passes (omega (arith, cache_length l cache p)) (cache_right l cache p)

  -- what is left is not refused
  left_accepted : (x : Left) (cache' : List ℕ) → length x.memory ≡ length l.memory → length x.states ≡ length l.states
      → length cache' ≡ length cache → AllAccepted (board_of l) x.states → Right (board_of l) cache' x.memory → fast_refusal (again l x) cache' ≡ 0
  unfolding passes schedule_fits names_cores levels_fit every_from
  left_accepted x cache' p q r a f =
      let n : length cache' ≡ length x.memory / 4 = r ∙ cache_length l cache (cache_passes l cache z) ∙ ap (λ (n : ℕ). n / 4) (sym p) in
      let b : board_of (again l x) ≡ board_of l = ap (λ (n : ℕ). record { cores = n / state_words; limit = l.limit; vectors = l.vectors }) q in
      none_refused (again l x) cache'
      (record {
        memory_fits_lem = rw p passes.memory_fits_lem;
        states_fit_lem = rw q passes.states_fit_lem;
        states_obey_lem = accepted_obeys (board_of (again l x)) x.states (subst (λ (board : Board). AllAccepted board x.states) (sym b) a);
        schedule_fits_lem = tt;
        names_cores_lem = tt;
        levels_fit_lem = tt;
        limit_fits_lem = rw p passes.limit_fits_lem;
        vectors_fit_lem = passes.vectors_fit_lem;
      })
      (right_passes (again l x) cache' n (subst (λ (board : Board). Right board cache' x.memory) (sym b) f))

-- ---- the answers

none_small : AtMost max_schedule no_counts
none_small = record { executed_le = omega arith; raised_le = omega arith; reused_le = omega arith }

module _ (l : Lent) where
  -- with an empty cache
  pub plain_ran : (mem' s' cache' : List ℕ) (n : Counts) → plain_refusal l ≡ 0 → Finished l [] mem' s' cache' n → PlainAnswer l (left mem' s') (Ok n)
  unfolding plain_run
  plain_ran mem' s' cache' n z e =
      let f = e.left ∙ from_uncached (board_of l) (scheduled_by l) (start l) 0 in
      record {
        refusal = sym z;
        left = rw (eq-eqb _ _ z) (ap (λ (x : Fast). x.plain) f);
        none_reused = ap (λ (x : Fast). x.reused) f;
        small = e.small;
      }

  -- a refused run writes nothing that is lent
  pub plain_refused : (cause : Refusal) → refusal_number cause ≡ plain_refusal l → PlainAnswer l (left l.memory l.states) (Err cause)
  plain_refused cause e = record {
    refusal = e;
    left = rw (ne_eqb (plain_refusal l) 0 (λ z. cause_number cause (e ∙ z)));
    none_reused = refl;
    small = none_small;
  }

  module _ (cache : List ℕ) where
    pub fast_refused : (cause : Refusal) → refusal_number cause ≡ fast_refusal l cache
        → FastAnswer l cache (left l.memory l.states) cache (Err cause)
    fast_refused cause e =
        let n : eqb (fast_refusal l cache) 0 ≡ false = ne_eqb (fast_refusal l cache) 0 (λ z. cause_number cause (e ∙ z)) in
        record {
          refusal = e;
          left = rw n;
          cache_left_lem = rw n;
          reused_count = rw n;
          small = none_small;
          accepted_again = λ z. absurd (cause_number cause (e ∙ z));
        }

    pub fast_ran : (mem' s' cache' : List ℕ) (n : Counts) → fast_refusal l cache ≡ 0 → Finished l cache mem' s' cache' n
        → length mem' ≡ length l.memory → length s' ≡ length l.states → length cache' ≡ length cache
        → FastAnswer l cache (left mem' s') cache' (Ok n)
    unfolding plain_run history cache_left
    fast_ran mem' s' cache' n z e p q r =
        let board = board_of l in
        let runs = fast_runnable l cache z in
        let f : Agrees board (fast_of mem' s' cache' n) (plain_run l) (history l cache) =
        subst (λ (x : Fast). Agrees board x (plain_run l) (history l cache)) (sym e.left)
        (from_agrees board (scheduled_by l) (fast_of l.memory l.states cache no_counts) runs.right) in
        let t : AllAccepted board (plain_run l).states = from_accepted board runs.vectors_lawful l.schedule l.levels (start l) runs.cores_there runs.accepted in
        let c : cache' ≡ entries_from board 0 (plain_run l).memory (history l cache).cached =
        cache_is board mem' cache' f.right_again
        ∙ ap₂ (λ (x : Plain) (h : History). entries_from board 0 x.memory h.cached) f.same_plain f.same_history in
        record {
          refusal = sym z;
          left = rw (eq-eqb _ _ z) f.same_plain;
          cache_left_lem = rw (eq-eqb (fast_refusal l cache) 0 z) c;
          reused_count = rw (eq-eqb _ _ z) (ap (λ (h : History). h.reused) f.same_history);
          small = e.small;
          accepted_again =
              λ _. left_accepted l cache z (left mem' s') cache' p q r (subst (λ (x : Plain). AllAccepted board x.states) (sym f.same_plain) t) f.right_again;
        }
