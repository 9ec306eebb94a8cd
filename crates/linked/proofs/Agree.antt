-- Both runs with linked cores agree; with an empty cache the fast one is the plain one; accepted states stay accepted, and memory below the limit as it was.
-- Assumes nothing.
use Rattle.std.proofs.Common.{◌≡◌, ℕ, suc, ◌-◌, ◌<◌, ◌≤◌, true, T, eqb, List, [], ◌∷◌, length, get_or, sym, refl, ap, ◌∙◌, arith, eqb→eq, ne_eqb}
use borrow.Author.Tests.{eqb-false}
use Rattle.isa.specs.InstructionSet.{decode}
use Rattle.decode_cache.proofs.Forms.{decode_filled}
use Rattle.bits.proofs.Cases.{if_law, if_both}
use Rattle.bits.proofs.Tests.{and_left, and_right, of_T, T_of}
use Rattle.isa.specs.Entry.{kind_of_entry, fields_of}
use Rattle.effect.specs.State.{delay_at}
use Rattle.effect.specs.Board.{Board}
use Rattle.effect.specs.declared.types.Effect.{Effect}
use Rattle.commit.specs.Commit.{word_at, core_count, inputs}
use Rattle.decode_cache.specs.Cache.{form_at}
use Rattle.semantics.specs.Meaning.{effect_of}
use Rattle.lawful.specs.Inner.{LawfulVectors}
use Rattle.lawful.specs.Accepted.{AllAccepted}
use Rattle.lawful.proofs.Raised.{completed_outside_slot}
use Rattle.pic.specs.Interrupt.{latched}
use Rattle.pic.proofs.Latched.{latched_word}
use Rattle.steps.specs.Plain.{Plain, scheduled, is_running, fetched, is_fetch, plain_step}
use Rattle.steps.specs.Fast.{Fast, emptied, fast_step}
use Rattle.steps.specs.History.{cached_at_first}
use Rattle.steps.specs.Inner.{IsForm, Right, history_of}
use Rattle.steps.specs.declared.Scheduled.{Scheduled}
use Rattle.steps.proofs.Agree.{cached_emptied, cached_form_lem, Agrees, step_agrees}
use Rattle.steps.proofs.Schedule.{none_emptied, step_uncached, step_accepted, step_length}
use Rattle.steps.proofs.ReadOnly.{step_keeps}
use Rattle.linked.specs.Linked.{completes, Shared, followers}
use Rattle.linked.specs.Run.{is_shared, lead_of, after_linked, form_fetched, plain_linked, fast_linked, history_linked, plain_from, fast_from, history_from, cached_fetched}
use Rattle.linked.specs.Inner.{reads_nothing, Leads}
use Rattle.linked.specs.declared.follow.Lead.{Lead}
use Rattle.linked.proofs.Followers.{mapped, mapped_if, followers_map, length_followers, followers_accepted, followers_right, followers_keeps}

-- ---- a fetch that is shared leads the linked cores

pub form_fetched_lem : (board : Board) (mem : List ℕ) (k : ℕ) → IsForm (form_at board mem k)
unfolding form_at
form_fetched_lem board mem k = record { word = _; decodes = refl }

module _ (board : Board) (mem s : List ℕ) (entry : Scheduled) (form : ℕ) (shared : is_shared board mem s entry form ≡ true) where
  tests : T (is_shared board mem s entry form)
  tests = T_of _ shared

  core_zero : entry.core ≡ 0
  unfolding is_shared
  core_zero = eqb→eq entry.core 0 (and_left (eqb entry.core 0) _ tests)

  completed : completes (effect_of board mem (latched s entry.core entry.lines) entry.core form) ≡ true
  unfolding is_shared
  completed =
      let t = latched s entry.core entry.lines in
      of_T _ (and_right (is_fetch mem t entry.core) _ (and_right (is_running s entry.core) _ (and_right (eqb entry.core 0) _ tests)))

  pub shared_leads : IsForm form → (s' : List ℕ) → AllAccepted board s → AllAccepted board s' → 0 < core_count s → 0 < core_count s' → Leads (lead_of form s s')
  unfolding inputs
  shared_leads f s' a a' h h' =
      record { is_form = f; before_lawful = (a 0 h).flow_lawful; after_lawful = (a' 0 h').flow_lawful; no_slot = outside }
    where
      outside : reads_nothing (kind_of_entry form) ≡ true → word_at s 0 delay_at ≡ 0
      outside k =
          let t = latched s entry.core entry.lines in
          let n : word_at t entry.core delay_at ≡ 1 → ⊥ = eqb-false _ _ (completed_outside_slot board mem (inputs t entry.core (fields_of form)) (kind_of_entry form) k completed) in
          let q : word_at t entry.core delay_at ≡ word_at s 0 delay_at =
          latched_word s entry.core entry.lines entry.core delay_at (omega arith) (λ z. omega arith) ∙ ap (λ (c : ℕ). word_at s c delay_at) core_zero in
          let d : word_at s 0 delay_at ≤ 1 = (a 0 h).flow_lawful.delay_bit in
          omega arith

-- ---- both runs agree

module _ (board : Board) (mem s : List ℕ) (entry : Scheduled) (form : ℕ) (y : Shared) where
  after_map : (f : List ℕ → List ℕ) → ((e : Effect) (l : List ℕ) → f (emptied e l) ≡ emptied e (f l))
      → after_linked board mem s entry form (mapped f y) ≡ mapped f (after_linked board mem s entry form y)
  unfolding after_linked
  after_map f q =
      let lead = lead_of form s y.states in
      rw (followers_map board lead f q (core_count s - 1) y) (mapped_if f (is_shared board mem s entry form) (followers board lead (core_count s - 1) y) y)

  -- a plain run has no entries
  after_none : after_linked board mem s entry form (mapped (λ _. []) y) ≡ mapped (λ _. []) (after_linked board mem s entry form y)
  after_none = after_map (λ _. []) (λ e l. sym (none_emptied e))

  after_right : Right board y.entries y.memory → Right board (after_linked board mem s entry form y).entries (after_linked board mem s entry form y).memory
  unfolding after_linked
  after_right r =
      if_both (λ (z : Shared). Right board z.entries z.memory) (is_shared board mem s entry form)
      (followers_right board (lead_of form s y.states) (core_count s - 1) y r) r

-- "executes a filled entry as it stands and not its word", linked cores too: what core 0 hands to them is its entry, also where memory holds another word
pub led_as_it_stands : (board : Board) (mem s cache : List ℕ) (w : ℕ) → get_or cache (fetched s 0) 0 ≡ decode w → cached_fetched board mem s cache ≡ decode w
led_as_it_stands board mem s cache w e = rw (e, ne_eqb (decode w) 0 (decode_filled w))

pub linked_agrees : (board : Board) (x : Fast) (entry : Scheduled) → Right board x.cache x.plain.memory
    → Agrees board (fast_linked board x entry) (plain_linked board x.plain entry) (history_linked board x.plain (history_of x) entry)
unfolding fast_linked plain_linked history_linked
linked_agrees board x entry r =
    let s = step_agrees board x entry r in
    let mem = x.plain.memory in
    let t = x.plain.states in
    let k = form_fetched board mem t in
    let z = fast_step board x entry in
    let y : Shared = record { memory = z.plain.memory; states = z.plain.states; entries = z.cache } in
    rw (← s.same_plain, ← s.same_history, cached_form_lem board mem x.cache (fetched t 0) r)
    (record {
      same_plain =
          ap (λ (y : Shared). record { memory = y.memory; states = y.states; executed = z.plain.executed; raised = z.plain.raised })
          (sym (after_none board mem t entry k y));
      same_history = ap (λ (y : Shared). record { cached = y.entries; reused = z.reused }) (sym (after_map board mem t entry k y cached_at_first cached_emptied));
      right_again = after_right board mem t entry k y s.right_again;
    })

pub from_agrees : (board : Board) (entries : List Scheduled) (x : Fast) → Right board x.cache x.plain.memory
    → Agrees board (fast_from board entries x) (plain_from board entries x.plain) (history_from board entries x.plain (history_of x))
unfolding fast_from plain_from history_from
from_agrees board [] x r = record { same_plain = refl; same_history = refl; right_again = r }
from_agrees board (entry ∷ more) x r =
    let s = linked_agrees board x entry r in
    rw (← s.same_plain, ← s.same_history) (from_agrees board more (fast_linked board x entry) s.right_again)

-- ---- with an empty cache it is the plain run, and nothing is reused

abbrev uncached : Plain → ℕ → Fast
uncached p n = record { plain = p; cache = []; reused = n }

pub linked_uncached : (board : Board) (p : Plain) (entry : Scheduled) (n : ℕ) → fast_linked board (uncached p n) entry ≡ uncached (plain_linked board p entry) n
unfolding fast_linked plain_linked
linked_uncached board p entry n =
    let q = plain_step board p entry in
    let y : Shared = record { memory = q.memory; states = q.states; entries = [] } in
    rw (step_uncached board p entry n, ap (λ (y : Shared). y.entries) (after_none board p.memory p.states entry (form_fetched board p.memory p.states) y))

pub from_uncached : (board : Board) (entries : List Scheduled) (p : Plain) (n : ℕ)
    → fast_from board entries (uncached p n) ≡ uncached (plain_from board entries p) n
unfolding fast_from plain_from
from_uncached board [] p n = refl
from_uncached board (entry ∷ more) p n = rw (linked_uncached board p entry n) (from_uncached board more (plain_linked board p entry) n)

-- ---- what an entry of the plain run leaves

module _ (board : Board) (p : Plain) (entry : Scheduled) where
  abbrev form : ℕ
  form = form_fetched board p.memory p.states

  abbrev stepped : Shared
  stepped = record { memory = (plain_step board p entry).memory; states = (plain_step board p entry).states; entries = [] }

  abbrev lead : Lead
  lead = lead_of form p.states stepped.states

  -- it has P if what the entry's own core leaves has, and so has what the linked cores leave of that
  linked_has : (P : Shared → Type 0) → P stepped → (is_shared board p.memory p.states entry form ≡ true → P (followers board lead (core_count p.states - 1) stepped))
      → P (after_linked board p.memory p.states entry form stepped)
  unfolding after_linked
  linked_has P a f = if_law P (is_shared board p.memory p.states entry form) f (λ _. a)

  pub linked_length : length (plain_linked board p entry).states ≡ length p.states
  unfolding plain_linked
  linked_length =
      linked_has (λ (y : Shared). length y.states ≡ length p.states) (step_length board p entry)
      (λ _. (length_followers board lead (core_count p.states - 1) stepped).states_length ∙ step_length board p entry)

  linked_keeps : (j : ℕ) → j < board.limit → get_or (plain_linked board p entry).memory j 0 ≡ get_or p.memory j 0
  unfolding plain_linked
  linked_keeps j h =
      linked_has (λ (y : Shared). get_or y.memory j 0 ≡ get_or p.memory j 0) (step_keeps board j h p entry)
      (λ _. followers_keeps board lead (core_count p.states - 1) stepped j h ∙ step_keeps board j h p entry)

-- ---- accepted states stay accepted

pub linked_accepted : (board : Board) → LawfulVectors board.vectors → (p : Plain) (entry : Scheduled) → entry.core < core_count p.states
    → AllAccepted board p.states → AllAccepted board (plain_linked board p entry).states
unfolding plain_linked
linked_accepted board v p entry h a =
    let b = step_accepted board v p entry h a in
    let n : length (plain_step board p entry).states ≡ length p.states = step_length board p entry in
    linked_has board p entry (λ (y : Shared). AllAccepted board y.states) b
    (λ q.
    followers_accepted board (lead board p entry) (core_count p.states - 1) (stepped board p entry) v
    (shared_leads board p.memory p.states entry (form board p entry) q (form_fetched_lem board p.memory (fetched p.states 0))
    (plain_step board p entry).states a b (omega arith) (omega arith))
    b (omega arith))

pub from_accepted : (board : Board) → LawfulVectors board.vectors → (schedule levels : List ℕ) (p : Plain)
    → ((i : ℕ) → i < length schedule → get_or schedule i 0 < core_count p.states) → AllAccepted board p.states
    → AllAccepted board (plain_from board (scheduled schedule levels) p).states
unfolding plain_from scheduled
from_accepted board v [] levels p n a = a
from_accepted board v (core ∷ schedule) [] p n a = a
from_accepted board v (core ∷ schedule) (lines ∷ levels) p n a =
    let entry : Scheduled = record { core = core; lines = lines } in
    from_accepted board v schedule levels (plain_linked board p entry) (λ i h. rw (linked_length board p entry) (n (suc i) (omega arith)))
    (linked_accepted board v p entry (n 0 (omega arith)) a)

-- after an entry of the fast run, states are accepted and the cache is right again
pub linked_kept : (board : Board) → LawfulVectors board.vectors → (x : Fast) (entry : Scheduled) → entry.core < core_count x.plain.states
    → AllAccepted board x.plain.states → Right board x.cache x.plain.memory → {y : Fast} → y ≡ fast_linked board x entry
    → AllAccepted board y.plain.states × Right board y.cache y.plain.memory
linked_kept board v x entry h a r q =
    let s = linked_agrees board x entry r in
    rw (q, s.same_plain) (linked_accepted board v x.plain entry h a, rw s.same_plain at s.right_again)

-- ---- memory below the limit stays as it was

pub from_keeps : (board : Board) (j : ℕ) → j < board.limit → (entries : List Scheduled) (p : Plain) → get_or (plain_from board entries p).memory j 0 ≡ get_or p.memory j 0
unfolding plain_from
from_keeps board j h [] p = refl
from_keeps board j h (entry ∷ more) p = from_keeps board j h more (plain_linked board p entry) ∙ linked_keeps board p entry j h
