-- One entry of the schedule with the linked cores, as its code goes: the step of its own core, counted from 0, tells whether its fetch is shared. Assumes
-- nothing.
use Rattle.std.specs.Prelude.{Ok, Err}
use Rattle.std.proofs.Common.{◌≡◌, ℕ, ◌+◌, ◌-◌, ◌/◌, ◌<◌, ◌≤◌, Bool, true, false, not, ◌&&◌, T, eqb, leb, List, [], ◌∷◌, length, get_or, drop, sym, refl, ap, ◌∙◌, subst, ap₂, zero-le, le_refl, add-zero, zero-add, add-one, arith, eqb→eq, drop_of_length-le, drop-cons, ne_eqb}
use mathlib.Core.Bool.{and-false}
use Rattle.bits.proofs.Cases.{by_equality, if_both}
use Rattle.bits.proofs.Tests.{and_left, and_right, T_of, of_T}
use Rattle.std.specs.declared.option.Option.{Option}
use Rattle.std.specs.declared.option.Option.TheVariants.{None, Some}
use Rattle.effect.specs.State.{state_words, pc_at}
use Rattle.effect.specs.Board.{Board}
use Rattle.effect.specs.Effect.{raises, Outcome}
use Rattle.effect.specs.declared.types.Effect.{Effect}
use Rattle.effect.specs.declared.types.Flow.{Flow}
use Rattle.commit.specs.Commit.{word_at, core_count, raised_by}
use Rattle.decode_cache.specs.Cache.{filled, cached_form}
use Rattle.decode_cache.specs.Inner.{fetch_at, form_of_fetch}
use Rattle.semantics.specs.Meaning.{effect_of}
use Rattle.pic.specs.Interrupt.{latched, is_interrupted}
use Rattle.pic.proofs.Latched.{latched_word}
use Rattle.lawful.specs.Accepted.{AllAccepted}
use Rattle.refusal.specs.Lent.{Lent, lent, board_of}
use Rattle.steps.specs.Plain.{scheduled, is_running, fetched, is_fetch, unfetched, plain_after}
use Rattle.steps.specs.Fast.{Fast, fast_fetch, fast_unfetched, fast_entry, fast_step}
use Rattle.steps.specs.Counts.{no_counts, AtMost, added_to}
use Rattle.steps.specs.Inner.{fast_of, IsForm, given_from, Right, Runnable, Finished}
use Rattle.steps.proofs.Agree.{cached_form_lem}
use Rattle.steps.proofs.Cases.{filled_le}
use Rattle.steps.proofs.Schedule.{given_none, step_kept}
use Rattle.steps.specs.declared.counts.Counts.{Counts}
use Rattle.steps.specs.declared.Scheduled.{Scheduled}
use Rattle.linked.specs.Linked.{flow_at, completes, Shared, followers}
use Rattle.linked.specs.Run.{is_shared, lead_of, after_linked, cached_fetched, fast_linked, fast_from}
use Rattle.linked.specs.Inner.{unscheduled, shared, Leads, AllFollowed, was_shared, Led}
use Rattle.linked.specs.declared.follow.Lead.{Lead}
use Rattle.linked.proofs.Agree.{form_fetched_lem, shared_leads}
use Rattle.linked.proofs.Cases.{unscheduled_runnable, board_again, runnable_again}

-- ---- the counts of a step

raised_le : (o : Outcome) → raised_by o ≤ 1
raised_le (Ok u) = zero-le
raised_le (Err x) = le_refl 1

-- what is no fetch raises
unfetched_raises : (s : List ℕ) (core : ℕ) → raised_by (unfetched s core).outcome ≡ 1
unfolding unfetched raises
unfetched_raises s core = if_both (λ (e : Effect). raised_by e.outcome ≡ 1) (is_interrupted s core) refl refl

-- what a fast run has come to, with more counts before it
abbrev counting : Counts → Fast → Fast
counting n x = record {
  plain = record { memory = x.plain.memory; states = x.plain.states; executed = n.executed + x.plain.executed; raised = n.raised + x.plain.raised };
  cache = x.cache;
  reused = n.reused + x.reused;
}

-- it counts at most one of each
record Once (x : Fast) : Type 0 where
  executed_once : x.plain.executed ≤ 1
  raised_once : x.plain.raised ≤ 1
  reused_once : x.reused ≤ 1

module _ (board : Board) (mem s cache : List ℕ) (entry : Scheduled) where
  abbrev core : ℕ
  core = entry.core

  -- the states once the lines are latched
  abbrev after : List ℕ
  after = latched s core entry.lines

  abbrev form : ℕ
  form = cached_form board mem cache (fetched after core)

  abbrev stepped : Counts → Fast
  stepped n = fast_step board (fast_of mem s cache n) entry

  -- each way a step goes
  data Goes : Type 0 where
    idle : is_running s core ≡ false → Goes
    none : is_running s core ≡ true → is_fetch mem after core ≡ false → Goes
    some : is_running s core ≡ true → is_fetch mem after core ≡ true → Goes

  goes : Goes
  goes = go (is_running s core) refl (is_fetch mem after core) refl
    where
      go : (a : Bool) → is_running s core ≡ a → (b : Bool) → is_fetch mem after core ≡ b → Goes
      go false p b q = idle p
      go true p false q = none p q
      go true p true q = some p q

  idle_left : is_running s core ≡ false → (n : Counts) → stepped n ≡ fast_of mem s cache n
  unfolding fast_step
  idle_left p n = rw p

  none_left : is_running s core ≡ true → is_fetch mem after core ≡ false → (n : Counts) → stepped n ≡ fast_unfetched board (fast_of mem after cache n) core
  unfolding fast_step fast_entry
  none_left p q n = rw (p, q)

  some_left : is_running s core ≡ true → is_fetch mem after core ≡ true → (n : Counts)
      → stepped n ≡ fast_fetch board (fast_of mem after cache n) core (fetched after core) (effect_of board mem after core form)
  unfolding fast_step fast_entry
  some_left p q n = rw (p, q)

  -- counted from n, or from 0 and then added
  none_counts : (n : Counts) → fast_unfetched board (fast_of mem after cache n) core ≡ counting n (fast_unfetched board (fast_of mem after cache no_counts) core)
  unfolding fast_unfetched plain_after
  none_counts n = rw (zero-add (raised_by (unfetched after core).outcome), add-zero n.reused)

  some_counts : (n : Counts) (k : ℕ) (e : Effect) → fast_fetch board (fast_of mem after cache n) core k e ≡ counting n (fast_fetch board (fast_of mem after cache no_counts) core k e)
  unfolding fast_fetch plain_after
  some_counts n k e = rw (zero-add (raised_by e.outcome), zero-add (filled (get_or cache k 0)))

  none_once : Once (fast_unfetched board (fast_of mem after cache no_counts) core)
  unfolding fast_unfetched plain_after
  none_once = let h = raised_le (unfetched after core).outcome in record { executed_once = omega arith; raised_once = omega arith; reused_once = omega arith }

  some_once : (k : ℕ) (e : Effect) → Once (fast_fetch board (fast_of mem after cache no_counts) core k e)
  unfolding fast_fetch plain_after
  some_once k e =
      let h = raised_le e.outcome in
      let g = filled_le (get_or cache k 0) in
      record { executed_once = omega arith; raised_once = omega arith; reused_once = omega arith }

  step_counts : (n : Counts) → stepped n ≡ counting n (stepped no_counts)
  step_counts n = by goes
    where
      by : Goes → stepped n ≡ counting n (stepped no_counts)
      by (idle p) =
          idle_left p n ∙ rw (add-zero n.executed, add-zero n.raised, add-zero n.reused) refl ∙ ap (counting n) (sym (idle_left p no_counts))
      by (none p q) = none_left p q n ∙ none_counts n ∙ ap (counting n) (sym (none_left p q no_counts))
      by (some p q) = some_left p q n ∙ some_counts n (fetched after core) (effect_of board mem after core form) ∙ ap (counting n) (sym (some_left p q no_counts))

  step_once : Once (stepped no_counts)
  step_once = by goes
    where
      by : Goes → Once (stepped no_counts)
      by (idle p) = rw (idle_left p no_counts) (record { executed_once = omega arith; raised_once = omega arith; reused_once = omega arith })
      by (none p q) = subst Once (sym (none_left p q no_counts)) (none_once)
      by (some p q) = subst Once (sym (some_left p q no_counts)) (some_once (fetched after core) (effect_of board mem after core form))

  -- ---- what the counts of the step tell

  module _ {mem' s' cache' : List ℕ} {m : Counts} (q : fast_of mem' s' cache' m ≡ stepped no_counts) where
    pub step_small : AtMost 1 m
    step_small = let o : Once (fast_of mem' s' cache' m) = subst Once (sym q) step_once in record { executed_le = o.executed_once; raised_le = o.raised_once; reused_le = o.reused_once }

    counted : (n : Counts) → fast_of mem' s' cache' (added_to n m) ≡ stepped n
    counted n = ap (counting n) q ∙ sym (step_counts n)

    executed_is : {x : Fast} → stepped no_counts ≡ x → m.executed ≡ x.plain.executed
    executed_is p = ap (λ (x : Fast). x.plain.executed) (q ∙ p)

    raised_is : {x : Fast} → stepped no_counts ≡ x → m.raised ≡ x.plain.raised
    raised_is p = ap (λ (x : Fast). x.plain.raised) (q ∙ p)

    -- core 0 fetches at the PC that it had before its lines were latched
    same_form : core ≡ 0 → form ≡ cached_fetched board mem s cache
    same_form z =
        ap (λ (pc : ℕ). cached_form board mem cache (pc / 4))
        (latched_word s core entry.lines core pc_at (omega arith) (λ y. omega arith) ∙ ap (λ (c : ℕ). word_at s c pc_at) z)

    unshared_idle : is_running s core ≡ false → was_shared core m ≡ is_shared board mem s entry (cached_fetched board mem s cache)
    unfolding is_shared
    unshared_idle p = rw (executed_is (idle_left p no_counts), p)

    unshared_none : is_running s core ≡ true → is_fetch mem after core ≡ false → was_shared core m ≡ is_shared board mem s entry (cached_fetched board mem s cache)
    unfolding is_shared fast_unfetched plain_after
    unshared_none p r =
        let e : m.raised ≡ 1 = raised_is (none_left p r no_counts) ∙ zero-add (raised_by (unfetched after core).outcome) ∙ unfetched_raises after core in
        rw (e, p, r, and-false (eqb m.executed 1))

    shared_some : core ≡ 0 → is_running s core ≡ true → is_fetch mem after core ≡ true → was_shared core m ≡ is_shared board mem s entry (cached_fetched board mem s cache)
    unfolding is_shared fast_fetch plain_after
    shared_some z p r =
        let e = effect_of board mem after core form in
        let a : m.executed ≡ 1 = executed_is (some_left p r no_counts) in
        let b : m.raised ≡ raised_by e.outcome = raised_is (some_left p r no_counts) ∙ zero-add (raised_by e.outcome) in
        rw (a, b, p, r, ← same_form z)

    unshared_other : (core ≡ 0 → ⊥) → was_shared core m ≡ is_shared board mem s entry (cached_fetched board mem s cache)
    unfolding is_shared
    unshared_other n = rw (ne_eqb core 0 n)

    pub shared_told : was_shared core m ≡ is_shared board mem s entry (cached_fetched board mem s cache)
    shared_told = by_equality core 0 (λ z. by z goes) unshared_other
      where
        by : core ≡ 0 → Goes → was_shared core m ≡ is_shared board mem s entry (cached_fetched board mem s cache)
        by z (idle p) = unshared_idle p
        by z (none p r) = unshared_none p r
        by z (some p r) = shared_some z p r

    -- ---- the whole entry

    pub led_left : (n : Counts) {mem'' s'' cache'' : List ℕ} → shared mem'' s'' cache'' ≡ after_linked board mem s entry (cached_fetched board mem s cache) (shared mem' s' cache')
        → fast_of mem'' s'' cache'' (added_to n m) ≡ fast_linked board (fast_of mem s cache n) entry
    unfolding fast_linked
    led_left n h =
        ap (λ (y : Shared). fast_of y.memory y.states y.entries (added_to n m)) h
        ∙ ap (λ (z : Fast).
        let y = after_linked board mem s entry (cached_fetched board mem s cache) (shared z.plain.memory z.plain.states z.cache) in
        record { plain = record { memory = y.memory; states = y.states; executed = z.plain.executed; raised = z.plain.raised }; cache = y.entries; reused = z.reused })
        (counted n)

  pub after_shared : (mem' s' cache' : List ℕ) {mem'' s'' cache'' : List ℕ} → is_shared board mem s entry (cached_fetched board mem s cache) ≡ true
      → shared mem'' s'' cache'' ≡ followers board (lead_of (cached_fetched board mem s cache) s s') (core_count s - 1) (shared mem' s' cache')
      → shared mem'' s'' cache'' ≡ after_linked board mem s entry (cached_fetched board mem s cache) (shared mem' s' cache')
  unfolding after_linked
  after_shared mem' s' cache' h f = f ∙ rw h

  pub after_own : (mem' s' cache' : List ℕ) → is_shared board mem s entry (cached_fetched board mem s cache) ≡ false
      → shared mem' s' cache' ≡ after_linked board mem s entry (cached_fetched board mem s cache) (shared mem' s' cache')
  unfolding after_linked
  after_own mem' s' cache' h = rw h

  -- the form that was looked up before the step is the one that core 0 fetched
  pub peeked : (f : ℕ) {pc : ℕ} {r : Option ℕ} → is_shared board mem s entry f ≡ true → pc ≡ word_at s 0 pc_at → r ≡ form_of_fetch (fetch_at board mem cache pc)
      → r ≡ Some (cached_fetched board mem s cache)
  unfolding is_shared is_fetch
  peeked f {pc} {r} h p e =
      let t : T (eqb core 0 && (is_running s core && (is_fetch mem after core && completes (effect_of board mem after core f)))) = T_of _ h in
      let z : core ≡ 0 = eqb→eq core 0 (and_left (eqb core 0) _ t) in
      let g : T (is_fetch mem after core) = and_left (is_fetch mem after core) _ (and_right (is_running s core) _ (and_right (eqb core 0) _ t)) in
      let i : T (leb (word_at after core pc_at + 4) (length mem)) = and_right (not (is_interrupted after core)) (leb (word_at after core pc_at + 4) (length mem)) g in
      let same : word_at after core pc_at ≡ pc =
      latched_word s core entry.lines core pc_at (omega arith) (λ y. omega arith) ∙ ap (λ (c : ℕ). word_at s c pc_at) z ∙ sym p in
      let inside : leb (pc + 4) (length mem) ≡ true = of_T _ (rw same at i) in
      e ∙ rw inside (ap (λ (n : ℕ). Some (cached_form board mem cache (n / 4))) p)

-- ---- the same, as the code has it

module _ (mem s : List ℕ) (core lines limit : ℕ) (vectors cache : List ℕ) (r : Runnable (lent mem s (core ∷ []) (lines ∷ []) limit vectors) cache) where
  abbrev lent_alone : Lent
  lent_alone = lent mem s (core ∷ []) (lines ∷ []) limit vectors

  abbrev alone : Scheduled
  alone = record { core = core; lines = lines }

  abbrev lent_board : Board
  lent_board = board_of lent_alone

  abbrev first : Fast
  first = fast_of mem s cache no_counts

  named : core < core_count s
  named = r.cores_there 0 (omega arith)

  pub core_0 : state_words ≤ length s
  core_0 = omega (arith, named)

  module _ {mem' s' cache' : List ℕ} {m : Counts} (e : Finished lent_alone None cache mem' s' cache' m) where
    step_left : fast_of mem' s' cache' m ≡ fast_step lent_board first alone
    unfolding given_from scheduled
    step_left = e.left ∙ given_none lent_board first alone

    kept : AllAccepted lent_board s' × Right lent_board cache' mem'
    kept = step_kept lent_board r.vectors_lawful first alone named r.accepted r.right step_left

    told : {b : Bool} → was_shared core m ≡ b → is_shared lent_board mem s alone (cached_fetched lent_board mem s cache) ≡ b
    told h = sym (shared_told lent_board mem s cache alone step_left) ∙ h

    -- the fetch is not shared
    pub entry_own : was_shared core m ≡ false → Led lent_alone cache alone mem' s' cache' m
    entry_own h = record {
      left = λ n. led_left lent_board mem s cache alone step_left n (after_own lent_board mem s cache alone mem' s' cache' (told h));
      once = step_small lent_board mem s cache alone step_left;
    }

    -- it is: then the look-up before the step found its form
    pub entry_found : was_shared core m ≡ true → {pc : ℕ} {r : Option ℕ} → pc ≡ word_at s 0 pc_at → r ≡ form_of_fetch (fetch_at lent_board mem cache pc)
        → r ≡ Some (cached_fetched lent_board mem s cache)
    entry_found h p f = peeked lent_board mem s cache alone (cached_fetched lent_board mem s cache) (told h) p f

    module _ (h : was_shared core m ≡ true) (l : length s' ≡ length s) {form : ℕ} (f : Some form ≡ Some (cached_fetched lent_board mem s cache)) {before after : Flow}
        (b : before ≡ flow_at s 0) (a : after ≡ flow_at s' 0) where
      abbrev lead : Lead
      lead = record { form = form; before = before; after = after }

      form_is : form ≡ cached_fetched lent_board mem s cache
      form_is = cc

      lead_is : lead ≡ lead_of (cached_fetched lent_board mem s cache) s s'
      lead_is = ap (λ (f : ℕ). record { form = f; before = before; after = after }) form_is ∙ ap₂ (λ (x y : Flow). record { form = cached_fetched lent_board mem s cache; before = x; after = y }) b a

      is_form : IsForm (cached_fetched lent_board mem s cache)
      is_form = rw (cached_form_lem lent_board mem cache (fetched s 0) r.right) (form_fetched_lem lent_board mem (fetched s 0))

      pub entry_leads : Leads lead
      entry_leads =
          rw lead_is
          (shared_leads lent_board mem s alone (cached_fetched lent_board mem s cache) (told h) is_form s' r.accepted kept.0 (omega (arith, named)) (omega (arith, named, l)))

      pub entry_runnable : length mem' ≡ length mem → length cache' ≡ length cache → Runnable (unscheduled mem' s' limit vectors) cache'
      entry_runnable n c = runnable_again mem s mem' s' limit vectors cache cache' l (unscheduled_runnable r) n c kept.0 kept.1

      pub entry_shared : {mem'' s'' cache'' : List ℕ} → AllFollowed (unscheduled mem' s' limit vectors) cache' lead mem'' s'' cache'' → Led lent_alone cache alone mem'' s'' cache'' m
      entry_shared {mem''} {s''} {cache''} g = record {
        left = λ n. led_left lent_board mem s cache alone step_left n (after_shared lent_board mem s cache alone mem' s' cache' (told h) all);
        once = step_small lent_board mem s cache alone step_left;
      }
        where
          all : shared mem'' s'' cache'' ≡ followers lent_board (lead_of (cached_fetched lent_board mem s cache) s s') (core_count s - 1) (shared mem' s' cache')
          all =
              g ∙ ap (λ (n : ℕ). followers (record { cores = n / state_words; limit = limit; vectors = vectors }) lead (n / state_words - 1) (shared mem' s' cache')) l
              ∙ ap (λ (x : Lead). followers lent_board x (core_count s - 1) (shared mem' s' cache')) lead_is

-- ---- the entries of a schedule, one after the other

module _ (board : Board) (schedule levels : List ℕ) (i : ℕ) (x : Fast) where
  pub from_next : i < length schedule → i < length levels → fast_from board (scheduled (drop i schedule) (drop i levels)) x
      ≡ fast_from board (scheduled (drop (i + 1) schedule) (drop (i + 1) levels)) (fast_linked board x (record { core = get_or schedule i 0; lines = get_or levels i 0 }))
  unfolding fast_from scheduled
  from_next h g = rw (add-one, drop-cons schedule i 0 h, drop-cons levels i 0 g)

  pub from_end : length schedule ≤ i → fast_from board (scheduled (drop i schedule) (drop i levels)) x ≡ x
  unfolding fast_from scheduled
  from_end h = rw (drop_of_length-le schedule h)

-- an entry on what the last left; the board is the first one's
module _ (mem s : List ℕ) (limit : ℕ) (vectors cache : List ℕ) (n : Counts) (core lines : ℕ) (mem₀ s₀ : List ℕ) (l : length s ≡ length s₀) where
  pub led_on : {mem' s' cache' : List ℕ} {m : Counts} → Led (lent mem s (core ∷ []) (lines ∷ []) limit vectors) cache (record { core = core; lines = lines }) mem' s' cache' m
      → fast_of mem' s' cache' (added_to n m) ≡ fast_linked (board_of (unscheduled mem₀ s₀ limit vectors)) (fast_of mem s cache n) (record { core = core; lines = lines })
  led_on e = e.left n ∙ ap (λ (b : Board). fast_linked b (fast_of mem s cache n) (record { core = core; lines = lines })) (board_again mem₀ s₀ mem s limit vectors cache cache l)

pub added_small : {n m : Counts} (i : ℕ) → AtMost i n → AtMost 1 m → AtMost (i + 1) (added_to n m)
added_small i a b = record { executed_le = omega arith; raised_le = omega arith; reused_le = omega arith }
