-- What an entry keeps, and a schedule entry by entry. Assumes nothing.
use mathlib.Core.Bool.{Bool, true, false}
use mathlib.Core.List.{List, [], ◌∷◌}
use mathlib.Core.Path.{◌≡◌, refl, sym, ap, subst, ◌∙◌}
use Prim.Native.Nat.{ℕ, zero, suc, ◌+◌, ◌<◌, ◌≤◌}
use native.Mathlib.Nat.{le_refl, zero-add}
use native.Mathlib.Numerals.{add-one}
use native.Mathlib.Omega.{arith}
use lib.ListN.{length, get_or, drop, drop_of_length-le}
use lib.Seq.{drop-cons, ext_get_or}
use lib.Dec.{eqb}
use borrow.Author.Tests.{eq-eqb, ne_eqb}
use Rattle.std.specs.Prelude.{if◌then◌else◌}
use Rattle.std.specs.declared.option.Option.{Option}
use Rattle.std.specs.declared.option.Option.TheVariants.{None, Some}
use Rattle.std.specs.Option.{IfSome}
use Rattle.bits.proofs.Cases.{if_both, by_equality}
use Rattle.isa.specs.declared.vectors.Cause.TheVariants.{Bus, Interrupt}
use Rattle.memory.specs.Memory.{memory_word}
use Rattle.effect.specs.State.{pc_at, eear_at, mode_at, picsr_at, linked}
use Rattle.effect.specs.Board.{Board}
use Rattle.effect.specs.declared.types.Effect.{Effect}
use Rattle.commit.specs.Commit.{word_at, core_count, inputs, no_fields, writes_memory, states_after, raised_by}
use Rattle.decode_cache.specs.Cache.{form_at}
use Rattle.semantics.specs.Meaning.{effect_of}
use Rattle.lawful.specs.Inner.{LawfulVectors, Lawful}
use Rattle.lawful.specs.Accepted.{AllAccepted}
use Rattle.lawful.proofs.Lawful.{faults_lawful}
use Rattle.lawful.proofs.States.{length_states, states_accepted, states_picsr}
use Rattle.lawful.proofs.Instruction.{inputs_lawful, decoded_lawful, effect_sound}
use Rattle.pic.specs.Interrupt.{latched, is_interrupted}
use Rattle.pic.specs.Inner.{NoneLatched}
use Rattle.pic.proofs.Latched.{length_latched, latched_accepted, latch_low}
use Rattle.refusal.specs.Lent.{Lent, lent, board_of}
use Rattle.steps.specs.Plain.{Plain, scheduled, is_running, latching, fetched, is_fetch, unfetched, plain_effect, plain_after, plain_entry, plain_step}
use Rattle.steps.specs.Fast.{Fast, emptied, fast_fetch, fast_unfetched, fast_entry, fast_step}
use Rattle.steps.specs.History.{cached_at_first, entries_from}
use Rattle.steps.specs.Inner.{fast_of, IsForm, is_linked, fast_form, given_step, given_from, Right, Finished, FormExecuted}
use Rattle.steps.specs.Counts.{no_counts}
use Rattle.steps.specs.declared.counts.Counts.{Counts}
use Rattle.steps.specs.declared.Scheduled.{Scheduled}
use Rattle.steps.proofs.Agree.{step_agrees, right_emptied, cached_at, length_cached}

-- ---- the entry i of a schedule

module _ (board : Board) (given : Option ℕ) (schedule levels : List ℕ) (i : ℕ) (x : Fast) where
  pub from_next : {core : ℕ} → core ≡ get_or schedule i 0 → i < length schedule → i < length levels
      → given_from board given (scheduled (drop i schedule) (drop i levels)) x
      ≡ given_from board given (scheduled (drop (i + 1) schedule) (drop (i + 1) levels)) (given_step board given x (record { core = core; lines = get_or levels i 0 }))
  unfolding given_from scheduled
  from_next e h g = rw (e, add-one, drop-cons schedule i 0 h, drop-cons levels i 0 g)

  pub from_end : length schedule ≤ i → given_from board given (scheduled (drop i schedule) (drop i levels)) x ≡ x
  unfolding given_from scheduled
  from_end h = rw (drop_of_length-le schedule h)

-- ---- with an empty cache it is the plain run, and nothing is reused

abbrev uncached : Plain → ℕ → Fast
uncached p n = record { plain = p; cache = []; reused = n }

pub none_emptied : (e : Effect) → emptied e [] ≡ []
unfolding emptied
none_emptied e = if_both (λ (l : List ℕ). l ≡ []) (writes_memory e) refl refl

module _ (board : Board) (p : Plain) (n : ℕ) where
  by_fetch : (core : ℕ) (b : Bool) → is_fetch p.memory p.states core ≡ b
      → fast_entry board (uncached p n) core ≡ uncached (plain_entry board p core) n
  unfolding fast_entry fast_fetch fast_unfetched plain_entry plain_effect
  by_fetch core true i = let z : n + 0 ≡ n = omega arith in rw (i, none_emptied, z)
  by_fetch core false i = rw i

  entry_uncached : (core : ℕ) → fast_entry board (uncached p n) core ≡ uncached (plain_entry board p core) n
  entry_uncached core = by_fetch core (is_fetch p.memory p.states core) refl

pub step_uncached : (board : Board) (p : Plain) (entry : Scheduled) (n : ℕ) → fast_step board (uncached p n) entry ≡ uncached (plain_step board p entry) n
unfolding fast_step plain_step
step_uncached board p entry n = go (is_running p.states entry.core)
  where
    go : (b : Bool) → (if b then fast_entry board (uncached (latching p entry) n) entry.core else uncached p n)
        ≡ uncached (if b then plain_entry board (latching p entry) entry.core else p) n
    go true = entry_uncached board (latching p entry) n entry.core
    go false = refl

-- ---- accepted states stay accepted

pub effect_lawful : (board : Board) (mem s : List ℕ) (core : ℕ) → core < core_count s → AllAccepted board s → Lawful (word_at s core picsr_at) (plain_effect board mem s core)
unfolding plain_effect unfetched form_at inputs
effect_lawful board mem s core h a =
    let x = inputs s core no_fields in
    let i = inputs_lawful s core no_fields (omega arith) (a core h) in
    if_both (Lawful (word_at s core picsr_at)) (is_fetch mem s core) (decoded_lawful board mem s core (memory_word mem (fetched s core)) (a core h))
    (if_both (Lawful (word_at s core picsr_at)) (is_interrupted s core) (faults_lawful x i Interrupt (word_at s core eear_at)) (faults_lawful x i Bus (word_at s core pc_at)))

-- a running core's, once its lines are latched
entry_accepted : (board : Board) → LawfulVectors board.vectors → (p : Plain) (core : ℕ) → core < core_count p.states → AllAccepted board p.states
    → AllAccepted board (plain_entry board p core).states
unfolding plain_entry plain_after
entry_accepted board v p core h a =
    states_accepted board.vectors p.states core (plain_effect board p.memory p.states core) v (effect_lawful board p.memory p.states core h a) h a

pub step_accepted : (board : Board) → LawfulVectors board.vectors → (p : Plain) (entry : Scheduled) → entry.core < core_count p.states → AllAccepted board p.states
    → AllAccepted board (plain_step board p entry).states
unfolding plain_step
step_accepted board v p entry h a =
    let l : length (latched p.states entry.core entry.lines) ≡ length p.states = length_latched p.states entry.core entry.lines in
    if_both (λ (q : Plain). AllAccepted board q.states) (is_running p.states entry.core)
    (entry_accepted board v (latching p entry) entry.core (omega arith) (latched_accepted p.states entry.core entry.lines a)) a

-- after an entry of the fast run, states are accepted and the cache is right again
pub step_kept : (board : Board) → LawfulVectors board.vectors → (x : Fast) (entry : Scheduled) → entry.core < core_count x.plain.states → AllAccepted board x.plain.states
    → Right board x.cache x.plain.memory → {y : Fast} → y ≡ fast_step board x entry
    → AllAccepted board y.plain.states × Right board y.cache y.plain.memory
step_kept board v x entry h a r q =
    let s = step_agrees board x entry r in
    rw (q, s.same_plain) (step_accepted board v x.plain entry h a, rw s.same_plain at s.right_again)

pub step_length : (board : Board) (p : Plain) (entry : Scheduled) → length (plain_step board p entry).states ≡ length p.states
unfolding plain_step plain_entry plain_after
step_length board p entry =
    let t = latched p.states entry.core entry.lines in
    if_both (λ (q : Plain). length q.states ≡ length p.states) (is_running p.states entry.core)
    (length_states board.vectors t entry.core (plain_effect board p.memory t entry.core) ∙ length_latched p.states entry.core entry.lines) refl

-- ---- with all lines low nothing is latched anew

step_picsr : (board : Board) (p : Plain) (entry : Scheduled) → entry.lines ≡ 0 → entry.core < core_count p.states → AllAccepted board p.states
    → (c : ℕ) → c < core_count p.states → word_at (plain_step board p entry).states c picsr_at ≤ word_at p.states c picsr_at
unfolding plain_step plain_entry plain_after
step_picsr board p entry z h a c i =
    if_both (λ (q : Plain). word_at q.states c picsr_at ≤ word_at p.states c picsr_at) (is_running p.states entry.core) runs (le_refl _)
  where
    same : latched p.states entry.core entry.lines ≡ p.states
    same = ap (latched p.states entry.core) z ∙ latch_low p.states entry.core

    runs : word_at (states_after board.vectors (latched p.states entry.core entry.lines) entry.core
        (plain_effect board p.memory (latched p.states entry.core entry.lines) entry.core)) c picsr_at ≤ word_at p.states c picsr_at
    runs = rw same (states_picsr board.vectors p.states entry.core (plain_effect board p.memory p.states entry.core) (effect_lawful board p.memory p.states entry.core h a) h c i)

pub none_latched_kept : (board : Board) (x : Fast) (entry : Scheduled) → entry.lines ≡ 0 → entry.core < core_count x.plain.states
    → AllAccepted board x.plain.states → Right board x.cache x.plain.memory → NoneLatched x.plain.states → {y : Fast} → y ≡ fast_step board x entry
    → NoneLatched y.plain.states
none_latched_kept board x entry z h a r n q =
    rw (q, (step_agrees board x entry r).same_plain)
    (λ c i.
    let l : length (plain_step board x.plain entry).states ≡ length x.plain.states = step_length board x.plain entry in
    let j : c < core_count x.plain.states = omega arith in
    omega (arith, step_picsr board x.plain entry z h a c j, n c j))

-- ---- the same of an entry whose core is given a form, if it is linked

pub given_none : (board : Board) (x : Fast) (entry : Scheduled) → given_step board None x entry ≡ fast_step board x entry
unfolding given_step
given_none board x entry = refl

module _ (board : Board) (form : ℕ) (x : Fast) (core : ℕ) (h : core < core_count x.plain.states) (a : AllAccepted board x.plain.states) (f : IsForm form) where
  form_lawful : Lawful (word_at x.plain.states core picsr_at) (effect_of board x.plain.memory x.plain.states core form)
  form_lawful = rw f.decodes (decoded_lawful board x.plain.memory x.plain.states core f.word (a core h))

  form_accepted : LawfulVectors board.vectors → AllAccepted board (fast_form board x core form).plain.states
  unfolding fast_form plain_after
  form_accepted v = states_accepted board.vectors x.plain.states core (effect_of board x.plain.memory x.plain.states core form) v form_lawful h a

  form_right : Right board x.cache x.plain.memory → Right board (fast_form board x core form).cache (fast_form board x core form).plain.memory
  unfolding fast_form plain_after
  form_right r =
      right_emptied board x.plain.memory x.cache (effect_of board x.plain.memory x.plain.states core form)
      (effect_sound board x.plain.memory x.plain.states core form) r

  form_latched : NoneLatched x.plain.states → NoneLatched (fast_form board x core form).plain.states
  unfolding fast_form plain_after
  form_latched n c i =
      let e = effect_of board x.plain.memory x.plain.states core form in
      let l : length (states_after board.vectors x.plain.states core e) ≡ length x.plain.states = length_states board.vectors x.plain.states core e in
      let j : c < core_count x.plain.states = omega arith in
      omega (arith, states_picsr board.vectors x.plain.states core e form_lawful h c j, n c j)

module _ (board : Board) (given : Option ℕ) (x : Fast) (entry : Scheduled) (h : entry.core < core_count x.plain.states) (a : AllAccepted board x.plain.states)
    (r : Right board x.cache x.plain.memory) (f : IfSome given IsForm) {y : Fast} (q : y ≡ given_step board given x entry) where
  by_given : (P : Fast → Type 0) → ((form : ℕ) → IsForm form → P (fast_form board x entry.core form)) → P (fast_step board x entry) → P y
  unfolding given_step
  by_given P it none = subst P (sym q) (go given f)
    where
      go : (given : Option ℕ) → IfSome given IsForm → P (given_step board given x entry)
      go None f = none
      go (Some form) f = if_both P (is_linked x.plain.states entry.core) (it form f) none

  pub given_kept : LawfulVectors board.vectors → AllAccepted board y.plain.states × Right board y.cache y.plain.memory
  given_kept v =
      by_given (λ (z : Fast). AllAccepted board z.plain.states × Right board z.cache z.plain.memory)
      (λ form g. (form_accepted board form x entry.core h a g v, form_right board form x entry.core h a g r))
      (step_kept board v x entry h a r refl)

  pub given_latched : entry.lines ≡ 0 → NoneLatched x.plain.states → NoneLatched y.plain.states
  given_latched z n =
      by_given (λ (w : Fast). NoneLatched w.plain.states) (λ form g. form_latched board form x entry.core h a g n)
      (none_latched_kept board x entry z h a r n refl)

-- a linked core alone
module _ (mem s : List ℕ) (limit : ℕ) (vectors cache : List ℕ) (core form : ℕ) where
  abbrev alone : Lent
  alone = lent mem s (core ∷ []) (0 ∷ []) limit vectors

  pub form_executed : word_at s core mode_at ≡ linked → {mem' s' cache' : List ℕ} {n : Counts} → Finished alone (Some form) cache mem' s' cache' n → FormExecuted alone cache core form mem' s' cache' (eqb n.raised 0)
  unfolding given_from given_step scheduled fast_form plain_after
  form_executed m {mem'} {s'} {cache'} {n} e =
      let q : fast_of mem' s' cache' n ≡ fast_form (board_of alone) (fast_of mem s cache no_counts) core form = e.left ∙ rw (eq-eqb (word_at s core mode_at) linked m) in
      record {
        memory = ap (λ (x : Fast). x.plain.memory) q;
        states = ap (λ (x : Fast). x.plain.states) q;
        entries_left = ap (λ (x : Fast). x.cache) q;
        completed = ap (λ (x : Fast). eqb x.plain.raised 0) q ∙ ap (λ (k : ℕ). eqb k 0) (zero-add (raised_by (effect_of (board_of alone) mem s core form).outcome));
      }

-- ---- the cache that a fast run leaves

length_entries : (board : Board) (k : ℕ) (mem h : List ℕ) → length (entries_from board k mem h) ≡ length h
unfolding entries_from
length_entries board k mem [] = refl
length_entries board k mem (b ∷ h) = ap suc (length_entries board (k + 1) mem h)

entries_at : (board : Board) (k : ℕ) (mem h : List ℕ) (j : ℕ) → j < length h
    → get_or (entries_from board k mem h) j 0 ≡ (if eqb (get_or h j 0) 0 then 0 else form_at board mem (k + j))
unfolding entries_from
entries_at board k mem [] j g = absurd (let z : j < 0 = g in omega arith)
entries_at board k mem (b ∷ h) zero g = let e : k + 0 ≡ k = omega arith in rw e
entries_at board k mem (b ∷ h) (suc j) g =
    let e : k + suc j ≡ k + 1 + j = omega arith in
    rw e (entries_at board (k + 1) mem h j (omega arith))

-- "a held word's entry is the form of what memory now holds there, any other 0"
pub cache_is : (board : Board) (mem c : List ℕ) → Right board c mem → c ≡ entries_from board 0 mem (cached_at_first c)
cache_is board mem c r = ext_get_or 0 c (entries_from board 0 mem (cached_at_first c)) (sym (length_entries board 0 mem (cached_at_first c) ∙ length_cached c)) at
  where
    at : (j : ℕ) → j < length c → get_or c j 0 ≡ get_or (entries_from board 0 mem (cached_at_first c)) j 0
    at j h =
        let l : j < length (cached_at_first c) = rw length_cached h in
        let z : 0 + j ≡ j = omega arith in
        sym (entries_at board 0 mem (cached_at_first c) j l ∙ rw (cached_at, z)
        (by_equality (get_or c j 0) 0 (λ q. rw (eq-eqb _ _ q) (sym q)) (λ q. rw (ne_eqb _ _ q) (sym (r j h q)))))
