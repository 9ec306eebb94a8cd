-- One schedule entry of the fast run, where every filled entry is its word's form: it is the plain run's, and the decode cache, which need not
-- have every word, goes with the history. Assumes nothing.
use mathlib.Core.Bool.{Bool, true, false}
use mathlib.Core.List.{List, [], ◌∷◌}
use mathlib.Core.Path.{◌≡◌, refl, sym, ap, ap₂, ◌∙◌}
use Prim.Native.Nat.{ℕ, zero, suc, ◌+◌, ◌<◌}
use lib.ListN.{length, get_or, set, length-set}
use lib.Seq.{get_or-set_same, get_or-set_other}
use borrow.Author.Tests.{eq-eqb, ne_eqb}
use Rattle.std.specs.Prelude.{if◌then◌else◌}
use Rattle.bits.proofs.Cases.{if_both, by_equality}
use Rattle.isa.specs.InstructionSet.{decode}
use Rattle.memory.specs.Memory.{memory_word}
use Rattle.effect.specs.Effect.{raises}
use Rattle.effect.specs.Board.{Board}
use Rattle.effect.specs.declared.types.Effect.{Effect}
use Rattle.commit.specs.Commit.{writes_memory, touched, memory_after}
use Rattle.decode_cache.proofs.Forms.{decode_filled, form_filled, filled_inside}
use Rattle.decode_cache.specs.Cache.{form_at, filled, cached_form}
use Rattle.semantics.specs.Meaning.{effect_of}
use Rattle.lawful.specs.Inner.{Sound}
use Rattle.lawful.proofs.Instruction.{effect_sound, no_store_kept, other_words_kept}
use Rattle.pic.specs.Interrupt.{is_interrupted}
use Rattle.steps.specs.Plain.{Plain, is_running, latching, fetched, is_fetch, unfetched, plain_effect, plain_after, plain_entry, plain_step}
use Rattle.steps.specs.Fast.{Fast, emptied, fast_fetch, fast_unfetched, fast_entry, fast_latching, fast_step}
use Rattle.steps.specs.History.{History, cached_at_first, history_fetch, history_entry, history_step}
use Rattle.steps.specs.declared.Scheduled.{Scheduled}
use Rattle.steps.specs.Inner.{Right, history_of}

-- ---- what is cached

pub cached_set : (c : List ℕ) (k entry : ℕ) → cached_at_first (set c k entry) ≡ set (cached_at_first c) k (filled entry)
unfolding cached_at_first
cached_set [] k entry = refl
cached_set (x ∷ c) zero entry = refl
cached_set (x ∷ c) (suc k) entry = ap (λ (l : List ℕ). filled x ∷ l) (cached_set c k entry)

pub cached_at : (c : List ℕ) (k : ℕ) → get_or (cached_at_first c) k 0 ≡ filled (get_or c k 0)
unfolding cached_at_first
cached_at [] k = refl
cached_at (x ∷ c) zero = refl
cached_at (x ∷ c) (suc k) = cached_at c k

pub length_cached : (c : List ℕ) → length (cached_at_first c) ≡ length c
unfolding cached_at_first
length_cached [] = refl
length_cached (x ∷ c) = ap suc (length_cached c)

pub cached_emptied : (e : Effect) (c : List ℕ) → cached_at_first (emptied e c) ≡ emptied e (cached_at_first c)
unfolding emptied
cached_emptied e c = go (writes_memory e)
  where
    go : (b : Bool) → cached_at_first (if b then set c (touched e) 0 else c) ≡ (if b then set (cached_at_first c) (touched e) 0 else cached_at_first c)
    go true = cached_set c (touched e) 0
    go false = refl

-- ---- every filled entry stays its word's form

-- a filled entry or a decoded word: the same
pub cached_form_lem : (board : Board) (mem c : List ℕ) (k : ℕ) → Right board c mem → cached_form board mem c k ≡ form_at board mem k
cached_form_lem board mem c k r =
    by_equality (get_or c k 0) 0 (λ q. rw (eq-eqb _ _ q)) (λ q. rw (ne_eqb _ _ q) (r k (filled_inside c k q) q))

right_filled : (board : Board) (mem c : List ℕ) (k : ℕ) → Right board c mem → Right board (set c k (form_at board mem k)) mem
right_filled board mem c k r j i q = by_equality j k same other
  where
    l : j < length c
    l = rw length-set at i

    same : j ≡ k → get_or (set c k (form_at board mem k)) j 0 ≡ form_at board mem j
    same e = let h : k < length c = rw e at l in rw e (get_or-set_same c k (form_at board mem k) 0 h)

    other : (j ≡ k → ⊥) → get_or (set c k (form_at board mem k)) j 0 ≡ form_at board mem j
    other n =
        let o : get_or (set c k (form_at board mem k)) j 0 ≡ get_or c j 0 = get_or-set_other c k j (form_at board mem k) 0 n in
        o ∙ r j l (λ z. q (o ∙ z))

right_touched : (board : Board) (mem c : List ℕ) (e : Effect) → Sound board (length mem) e → Right board c mem
    → Right board (set c (touched e) 0) (memory_after mem e)
unfolding form_at
right_touched board mem c e sound r j i q = by_equality j (touched e) same other
  where
    l : j < length c
    l = rw length-set at i

    same : j ≡ touched e → get_or (set c (touched e) 0) j 0 ≡ decode (memory_word (memory_after mem e) j)
    same p =
        let t : touched e < length c = rw p at l in
        absurd (q (ap (λ (m : ℕ). get_or (set c (touched e) 0) m 0) p ∙ get_or-set_same c (touched e) 0 0 t))

    other : (j ≡ touched e → ⊥) → get_or (set c (touched e) 0) j 0 ≡ decode (memory_word (memory_after mem e) j)
    other n =
        let o : get_or (set c (touched e) 0) j 0 ≡ get_or c j 0 = get_or-set_other c (touched e) j 0 0 n in
        o ∙ r j l (λ z. q (o ∙ z)) ∙ ap decode (sym (other_words_kept board mem e sound j n))

pub right_emptied : (board : Board) (mem c : List ℕ) (e : Effect) → Sound board (length mem) e → Right board c mem
    → Right board (emptied e c) (memory_after mem e)
unfolding emptied
right_emptied board mem c e sound r = go (writes_memory e) refl
  where
    go : (b : Bool) → writes_memory e ≡ b → Right board (if b then set c (touched e) 0 else c) (memory_after mem e)
    go true h = right_touched board mem c e sound r
    go false h = rw (no_store_kept mem e h) r

-- ---- one entry

-- "for every entry that some word decodes to, its outcome is that form's, also where memory holds another word there": no fact on the cache is asked
pub entry_as_it_stands : (board : Board) (x : Fast) (core w : ℕ) → is_fetch x.plain.memory x.plain.states core ≡ true
    → get_or x.cache (fetched x.plain.states core) 0 ≡ decode w
    → (fast_entry board x core).plain ≡ plain_after board x.plain core (effect_of board x.plain.memory x.plain.states core (decode w))
unfolding fast_entry fast_fetch
entry_as_it_stands board x core w i e = rw (i, e, ne_eqb (decode w) 0 (decode_filled w))

pub unfetched_stores : (s : List ℕ) (core : ℕ) → writes_memory (unfetched s core) ≡ false
unfolding unfetched raises
unfetched_stores s core = if_both (λ (e : Effect). writes_memory e ≡ false) (is_interrupted s core) refl refl

-- what is left is the plain run's p, and goes with the history h
pub record Agrees (board : Board) (y : Fast) (p : Plain) (h : History) : Type 0 where
  pub same_plain : y.plain ≡ p
  pub same_history : history_of y ≡ h
  pub right_again : Right board y.cache y.plain.memory

module _ (board : Board) (x : Fast) (core : ℕ) (right : Right board x.cache x.plain.memory) where
  done_agrees : (k : ℕ) (e : Effect) → Sound board (length x.plain.memory) e
      → Agrees board
      (record { plain = plain_after board x.plain core e; cache = emptied e (set x.cache k (form_at board x.plain.memory k)); reused = x.reused + filled (get_or x.cache k 0) })
      (plain_after board x.plain core e)
      (record { cached = emptied e (set (cached_at_first x.cache) k 1); reused = x.reused + get_or (cached_at_first x.cache) k 0 })
  unfolding plain_after
  done_agrees k e sound =
      let f = form_at board x.plain.memory k in
      let one : filled f ≡ 1 = rw (ne_eqb f 0 (form_filled board x.plain.memory k)) in
      record {
        same_plain = refl;
        same_history =
            ap₂ (λ (c : List ℕ) (n : ℕ). record { cached = c; reused = x.reused + n })
            (cached_emptied e (set x.cache k f) ∙ ap (emptied e) (cached_set x.cache k f ∙ ap (set (cached_at_first x.cache) k) one))
            (sym (cached_at x.cache k));
        right_again = right_emptied board x.plain.memory (set x.cache k f) e sound (right_filled board x.plain.memory x.cache k right);
      }

  module _ (fetches : is_fetch x.plain.memory x.plain.states core ≡ true) where
    effect_fetched : plain_effect board x.plain.memory x.plain.states core
        ≡ effect_of board x.plain.memory x.plain.states core (form_at board x.plain.memory (fetched x.plain.states core))
    unfolding plain_effect
    effect_fetched = rw fetches

    fetch_agrees : Agrees board
        (fast_fetch board x core (fetched x.plain.states core)
        (effect_of board x.plain.memory x.plain.states core (cached_form board x.plain.memory x.cache (fetched x.plain.states core))))
        (plain_entry board x.plain core)
        (history_fetch board x.plain (history_of x) core)
    unfolding fast_fetch plain_entry history_fetch
    fetch_agrees =
        let k = fetched x.plain.states core in
        rw (effect_fetched, cached_form_lem board x.plain.memory x.cache k right)
        (done_agrees k (effect_of board x.plain.memory x.plain.states core (form_at board x.plain.memory k))
        (effect_sound board x.plain.memory x.plain.states core (form_at board x.plain.memory k)))

  unfetched_agrees : is_fetch x.plain.memory x.plain.states core ≡ false → Agrees board (fast_unfetched board x core) (plain_entry board x.plain core) (history_of x)
  unfolding fast_unfetched plain_entry plain_effect plain_after
  unfetched_agrees none =
      let e = unfetched x.plain.states core in
      rw none (record {
        same_plain = refl;
        same_history = refl;
        right_again = rw (no_store_kept x.plain.memory e (unfetched_stores x.plain.states core)) right;
      })

  by_fetch : (b : Bool) → is_fetch x.plain.memory x.plain.states core ≡ b → Agrees board
      (if b then fast_fetch board x core (fetched x.plain.states core)
      (effect_of board x.plain.memory x.plain.states core (cached_form board x.plain.memory x.cache (fetched x.plain.states core)))
      else fast_unfetched board x core)
      (plain_entry board x.plain core)
      (if b then history_fetch board x.plain (history_of x) core else history_of x)
  by_fetch true e = fetch_agrees e
  by_fetch false e = unfetched_agrees e

  entry_agrees : Agrees board (fast_entry board x core) (plain_entry board x.plain core) (history_entry board x.plain (history_of x) core)
  unfolding fast_entry history_entry
  entry_agrees = by_fetch (is_fetch x.plain.memory x.plain.states core) refl

module _ (board : Board) (x : Fast) (entry : Scheduled) (right : Right board x.cache x.plain.memory) where
  by_running : (a : Bool) → Agrees board
      (if a then fast_entry board (fast_latching x entry) entry.core else x)
      (if a then plain_entry board (latching x.plain entry) entry.core else x.plain)
      (if a then history_entry board (latching x.plain entry) (history_of x) entry.core else history_of x)
  by_running true = entry_agrees board (fast_latching x entry) entry.core right
  by_running false = record { same_plain = refl; same_history = refl; right_again = right }

  pub step_agrees : Agrees board (fast_step board x entry) (plain_step board x.plain entry) (history_step board x.plain (history_of x) entry)
  unfolding fast_step plain_step history_step
  step_agrees = by_running (is_running x.plain.states entry.core)
