-- One schedule entry, case by case, as its code goes. Assumes nothing.
use mathlib.Core.Bool.{Bool, true, false, ◌&&◌, and-true, true≢false}
use mathlib.Core.List.{List}
use mathlib.Core.Path.{◌≡◌, refl, ap, sym, subst, ◌∙◌}
use Prim.Native.Nat.{ℕ, ◌+◌, ◌<◌, ◌≤◌, zero-le}
use native.Mathlib.Nat.{le_refl, add-zero}
use native.Mathlib.Omega.{arith}
use lib.Dec.{T}
use lib.ListN.{length, get_or, set}
use borrow.Author.Tests.{eq-eqb, ne_eqb, eqb-true, le-leb, lt-leb}
use Rattle.std.specs.Prelude.{if◌then◌else◌}
use Rattle.std.specs.declared.option.Option.{Option}
use Rattle.std.specs.declared.option.Option.TheVariants.{None, Some}
use Rattle.std.specs.Option.{is_some, option_map}
use Rattle.bits.proofs.Cases.{if_both}
use Rattle.bits.proofs.Tests.{and_left, and_right, T_of, of_T}
use Rattle.effect.specs.State.{state_words, pc_at, mode_at, picsr_at, linked, running}
use Rattle.effect.specs.Board.{Board}
use Rattle.effect.specs.Effect.{no_store, Outcome}
use Rattle.effect.specs.declared.types.Effect.{Effect}
use Rattle.effect.specs.declared.types.Store.{Store}
use Rattle.commit.specs.Commit.{word_at, fetch_fault, word_of}
use Rattle.commit.specs.Inner.{tells}
use Rattle.commit.specs.declared.Done.{Done}
use Rattle.decode_cache.specs.Cache.{is_filled, filled, cached_form}
use Rattle.decode_cache.specs.Inner.{emptied_by}
use Rattle.decode_cache.specs.declared.Fetched.{Fetched}
use Rattle.decode_cache.proofs.Fetches.{found_inside, found_outside}
use Rattle.semantics.specs.Meaning.{effect_of}
use Rattle.exec.specs.Inner.{Executed}
use Rattle.exec.proofs.Executes.{executed_as}
use Rattle.lawful.specs.Inner.{Mode, own, is_linked_lem, is_halted, is_running_lem}
use Rattle.pic.specs.Interrupt.{latched, is_interrupted, interruption}
use Rattle.pic.specs.Inner.{is_quiet}
use Rattle.pic.proofs.Latched.{length_latched, latched_word, latch_low, none_interrupts}
use Rattle.pic.proofs.Silent.{quiet_low}
use Rattle.steps.specs.Plain.{is_running, fetched, is_fetch, unfetched, plain_after}
use Rattle.steps.specs.Fast.{emptied, fast_fetch, fast_unfetched, fast_entry, fast_step, turn_of, step_turn}
use Rattle.steps.specs.Counts.{AtMost}
use Rattle.steps.specs.Inner.{Grown, is_linked, is_given, fast_form, given_step, given_turn, Taken, Entered, Stepped, begun, start_of, Undisturbed, straight_mode}
use Rattle.steps.specs.declared.counts.Counts.{Counts}
use Rattle.steps.specs.declared.Scheduled.{Scheduled}
use Rattle.steps.specs.declared.Start.{Start}
use Rattle.steps.specs.declared.Start.TheVariants as start
use Rattle.steps.specs.declared.Turn.{Turn}
use Rattle.steps.specs.declared.Turn.TheVariants.{Idle, Unfetched, Instruction}

-- ---- counts

pub filled_le : (entry : ℕ) → filled entry ≤ 1
filled_le entry = go (is_filled entry)
  where
    go : (b : Bool) → (if b then 1 else 0) ≤ 1
    go true = le_refl 1
    go false = zero-le

pub grown : {n n' : Counts} (i : ℕ) → AtMost i n → Grown n n' → AtMost (i + 1) n'
grown i a g = record { executed_le = omega arith; raised_le = omega arith; reused_le = omega arith }

-- ---- an entry of a core that is not interrupted

-- what the run is told of an instruction's store empties what its effect empties
told_emptied : (c : List ℕ) {vectors mem s mem' s' : List ℕ} {core : ℕ} {e : Effect} {r : Done} → Executed vectors mem s core e mem' s' r → emptied_by r.stored c ≡ emptied e c
unfolding emptied
told_emptied c {e = e} x = ap (λ (d : Done). emptied_by d.stored c) x.done ∙ go e.store
  where
    go : (o : Option Store) → emptied_by (option_map (λ (s : Store). s.address) o) c ≡ (if is_some o then set c (word_of o) 0 else c)
    go None = refl
    go (Some s) = refl

module _ (board : Board) (mem s c : List ℕ) (core : ℕ) where
  is_fetch_lem : is_interrupted s core ≡ false → word_at s core pc_at + 4 ≤ length mem → is_fetch mem s core ≡ true
  unfolding is_fetch
  is_fetch_lem h g = rw (h, le-leb _ _ g)

  no_fetch_outside : is_interrupted s core ≡ false → length mem < word_at s core pc_at + 4 → is_fetch mem s core ≡ false
  unfolding is_fetch
  no_fetch_outside h g = rw (h, lt-leb _ _ g)

  no_fetch_interrupted : is_interrupted s core ≡ true → is_fetch mem s core ≡ false
  unfolding is_fetch
  no_fetch_interrupted h = rw h

  -- no word is fetched
  entered_unfetched : {mem' s' : List ℕ} {o : Outcome} {e : Effect} → is_fetch mem s core ≡ false → e ≡ unfetched s core
      → Executed board.vectors mem s core e mem' s' (tells o no_store) → Entered board mem s c core None mem' s' c (Unfetched o)
  unfolding fast_entry fast_unfetched plain_after turn_of
  entered_unfetched {mem'} {s'} {o} {e} f q x =
      let p : o ≡ e.outcome = ap (λ (d : Done). d.outcome) x.done in
      record {
        turn = rw (f, p, q);
        left = λ n. rw (f, p, x.memory, x.states, q);
      }

  pub entered_outside : {mem' s' : List ℕ} {o : Outcome} → is_interrupted s core ≡ false → length mem < word_at s core pc_at + 4
      → Executed board.vectors mem s core (fetch_fault s core) mem' s' (tells o no_store) → Entered board mem s c core None mem' s' c (Unfetched o)
  unfolding unfetched
  entered_outside h g x = entered_unfetched (no_fetch_outside h g) (rw h) x

  pub entered_interrupted : {mem' s' : List ℕ} {o : Outcome} → is_interrupted s core ≡ true
      → Executed board.vectors mem s core (interruption s core) mem' s' (tells o no_store) → Entered board mem s c core None mem' s' c (Unfetched o)
  unfolding unfetched
  entered_interrupted h x = entered_unfetched (no_fetch_interrupted h) (rw h) x

  -- the cache after the fetch of word k, and after its instruction
  pub entered_inside : {k : ℕ} (c' : List ℕ) {mem' s' c'' : List ℕ} {r : Done} {u : Bool} → k ≡ fetched s core
      → is_interrupted s core ≡ false → word_at s core pc_at + 4 ≤ length mem
      → c' ≡ set c k (cached_form board mem c k) → Executed board.vectors mem s core (effect_of board mem s core (cached_form board mem c k)) mem' s' r
      → c'' ≡ emptied_by r.stored c' → u ≡ is_filled (get_or c k 0)
      → Entered board mem s c core None mem' s' c'' (Instruction r.outcome u)
  unfolding fast_entry fast_fetch plain_after turn_of
  entered_inside c' w h g p x t q =
      record {
        turn = rw (is_fetch_lem h g, q, x.done, w);
        left = λ n. rw (is_fetch_lem h g, t, told_emptied c' x, p, q, x.memory, x.states, x.done, w);
      }

  -- a form is given
  pub entered_given : (form : ℕ) {mem' s' c'' : List ℕ} {r : Done} → Executed board.vectors mem s core (effect_of board mem s core form) mem' s' r
      → c'' ≡ emptied_by r.stored c → Entered board mem s c core (Some form) mem' s' c'' (Instruction r.outcome false)
  unfolding fast_form plain_after
  entered_given form x t = record { turn = rw x.done; left = λ m. rw (add-zero m.reused, t, told_emptied c x, x.memory, x.states, x.done) }

  -- any, as the code goes: nothing to execute is found, or some form
  module _ (given : Option ℕ) (n : given ≡ None → is_interrupted s core ≡ false) where
    pub enters_outside : {c' : List ℕ} → Taken board mem c (word_at s core pc_at) given None c' → {s' : List ℕ} {o : Outcome}
        → Executed board.vectors mem s core (fetch_fault s core) mem s' (tells o no_store) → Entered board mem s c core given mem s' c' (Unfetched o)
    enters_outside {c'} t {s'} {o} x = by given n t
      where
        by : (given : Option ℕ) → (given ≡ None → is_interrupted s core ≡ false) → Taken board mem c (word_at s core pc_at) given None c'
            → Entered board mem s c core given mem s' c' (Unfetched o)
        by None n t =
            let out = found_outside board mem c (word_at s core pc_at) t.1 t.0 in
            subst (λ (l : List ℕ). Entered board mem s c core None mem s' l (Unfetched o)) (sym out.cache) (entered_outside (n refl) out.outside x)
        by (Some form) n t = cc

    pub enters_inside : {f : Fetched} {c' : List ℕ} → Taken board mem c (word_at s core pc_at) given (Some f) c' → {mem' s' c'' : List ℕ} {r : Done}
        → Executed board.vectors mem s core (effect_of board mem s core f.entry) mem' s' r → c'' ≡ emptied_by r.stored c'
        → Entered board mem s c core given mem' s' c'' (Instruction r.outcome f.reused)
    enters_inside {f} {c'} t {mem'} {s'} {c''} {r} x e = by given n t
      where
        by : (given : Option ℕ) → (given ≡ None → is_interrupted s core ≡ false) → Taken board mem c (word_at s core pc_at) given (Some f) c'
            → Entered board mem s c core given mem' s' c'' (Instruction r.outcome f.reused)
        by None n t =
            let i = found_inside board mem c (word_at s core pc_at) t.1 t.0 in
            entered_inside c' refl (n refl) i.inside i.cache (executed_as (ap (λ (g : Fetched). effect_of board mem s core g.entry) i.found) x) e (ap (λ (g : Fetched). g.reused) i.found)
        by (Some form) n t =
            let p : f ≡ record { entry = form; reused = false } = cc in
            let u : f.reused ≡ false = ap (λ (g : Fetched). g.reused) p in
            rw u (entered_given form (executed_as (ap (λ (g : Fetched). effect_of board mem s core g.entry) p) x) (rw t.1 at e))

-- ---- any entry

-- what its beginning says, a being whether its core runs, b whether it is interrupted, and g whether it is given a form
start_by : Bool → Bool → Bool → Option ℕ → Start
start_by a b g given = if a then (if b then start.Interrupt else start.Execute None) else if g then start.Execute given else start.Idle

idle_from : (a b g : Bool) (given : Option ℕ) → start.Idle ≡ start_by a b g given → (a ≡ false) × (g ≡ false)
unfolding start_by
idle_from true true g given q = cc
idle_from true false g given q = cc
idle_from false b true given q = cc
idle_from false b false given q = (refl, refl)

interrupt_from : (a b g : Bool) (given : Option ℕ) → start.Interrupt ≡ start_by a b g given → (a ≡ true) × (b ≡ true)
unfolding start_by
interrupt_from true true g given q = (refl, refl)
interrupt_from true false g given q = cc
interrupt_from false b true given q = cc
interrupt_from false b false given q = cc

-- a core executes what it fetches, or what it is given
data Executes (a b g : Bool) (given : Option ℕ) : Option ℕ → Type 0 where
  fetches : a ≡ true → b ≡ false → Executes a b g given None
  takes : a ≡ false → g ≡ true → Executes a b g given given

execute_from : (a b g : Bool) (given f : Option ℕ) → start.Execute f ≡ start_by a b g given → Executes a b g given f
unfolding start_by
execute_from true true g given f q = cc
execute_from true false g given f q = let e : None ≡ f = cc in subst (Executes true false g given) e (fetches refl refl)
execute_from false b true given f q = let e : given ≡ f = cc in subst (Executes false b true given) e (takes refl refl)
execute_from false b false given f q = cc

-- a linked core does not run
not_running : (s : List ℕ) (core : ℕ) → is_running s core ≡ true → is_linked s core ≡ false
not_running s core h =
    let m : word_at s core mode_at ≡ running = eqb-true _ _ h in
    ne_eqb (word_at s core mode_at) linked (λ z. omega arith)

-- what is given is some form
given_some : (s : List ℕ) (core : ℕ) (given : Option ℕ) → is_given s core given ≡ true → (is_linked s core ≡ true) × (is_some given ≡ true)
given_some s core given g =
    let t : T (is_linked s core && is_some given) = T_of _ g in
    (of_T _ (and_left (is_linked s core) (is_some given) t), of_T _ (and_right (is_linked s core) (is_some given) t))

module _ (s : List ℕ) (entry : Scheduled) (given : Option ℕ) where
  abbrev runs : Bool
  runs = is_running s entry.core

  abbrev interrupted : Bool
  interrupted = is_interrupted (latched s entry.core entry.lines) entry.core

  abbrev takes_given : Bool
  takes_given = is_given s entry.core given

  -- how it begins, case by case
  pub begins_idle : (word_at s entry.core mode_at ≡ running → ⊥) → takes_given ≡ false → (s ≡ begun s entry) × (start.Idle ≡ start_of s entry given)
  begins_idle h g = (rw (ne_eqb _ _ h), rw (ne_eqb _ _ h, g))

  pub begins_given : takes_given ≡ true → (s ≡ begun s entry) × (start.Execute given ≡ start_of s entry given)
  begins_given g =
      let h : word_at s entry.core mode_at ≡ linked = eqb-true _ linked (given_some s entry.core given g).0 in
      let r : is_running s entry.core ≡ false = ne_eqb (word_at s entry.core mode_at) running (λ z. omega arith) in
      (rw r, rw (r, g))

  pub begins_latched : {t : List ℕ} {b : Bool} → word_at s entry.core mode_at ≡ running → t ≡ latched s entry.core entry.lines
      → b ≡ interrupted → (t ≡ begun s entry) × ((if b then start.Interrupt else start.Execute None) ≡ start_of s entry given)
  begins_latched h q r = (rw (eq-eqb _ _ h) q, rw (eq-eqb _ _ h, r))

  pub begins_undisturbed : Undisturbed s entry → (s ≡ begun s entry) × (start.Execute None ≡ start_of s entry given)
  begins_undisturbed u =
      let same : latched s entry.core entry.lines ≡ s = ap (latched s entry.core) u.low ∙ latch_low s entry.core in
      begins_latched u.runs (sym same)
      (sym (ap (λ (t : List ℕ). is_interrupted t entry.core) same ∙ none_interrupts s entry.core u.unlatched))

  module _ {t : List ℕ} (q : t ≡ begun s entry) where
    latched_then : runs ≡ true → t ≡ latched s entry.core entry.lines
    latched_then h = q ∙ rw h

    kept_then : runs ≡ false → t ≡ s
    kept_then h = q ∙ rw h

    -- what an instruction needs, unless a form is given
    pub fetch_undisturbed : {f : Option ℕ} → start.Execute f ≡ start_of s entry given → f ≡ None → is_interrupted t entry.core ≡ false
    unfolding start_by
    fetch_undisturbed {f} r z = go (execute_from runs interrupted takes_given given f r) z
      where
        go : {f : Option ℕ} → Executes runs interrupted takes_given given f → f ≡ None → is_interrupted t entry.core ≡ false
        go (fetches h g) z = ap (λ (t : List ℕ). is_interrupted t entry.core) (latched_then h) ∙ g
        go (takes h g) z = let some = (given_some s entry.core given g).1 in absurd (true≢false (sym some ∙ rw z))

    -- every word but PICSR is as it was
    pub begun_word : (j : ℕ) → j < state_words → (j ≡ picsr_at → ⊥) → word_at t entry.core j ≡ word_at s entry.core j
    begun_word j h n =
        rw q (if_both (λ (t : List ℕ). word_at t entry.core j ≡ word_at s entry.core j) runs
        (latched_word s entry.core entry.lines entry.core j h n) refl)

    pub begun_length : length t ≡ length s
    begun_length = rw q (if_both (λ (t : List ℕ). length t ≡ length s) runs (length_latched s entry.core entry.lines) refl)

module _ (board : Board) (mem s c : List ℕ) (entry : Scheduled) (given : Option ℕ) where
  stepped_idle : runs s entry given ≡ false → takes_given s entry given ≡ false → Stepped board mem s c entry given mem s c Idle
  unfolding given_step given_turn fast_step step_turn
  stepped_idle h g = by given g
    where
      by : (given : Option ℕ) → is_given s entry.core given ≡ false → Stepped board mem s c entry given mem s c Idle
      by None g = record { turn = rw h; left = λ n. rw h }
      by (Some form) g = let l : is_linked s entry.core ≡ false = sym (and-true (is_linked s entry.core)) ∙ g in record { turn = rw (l, h); left = λ n. rw (l, h) }

  -- a running core's
  stepped_running : {mem' s' c' : List ℕ} {r : Turn} → runs s entry given ≡ true
      → Entered board mem (latched s entry.core entry.lines) c entry.core None mem' s' c' r → Stepped board mem s c entry given mem' s' c' r
  unfolding given_step given_turn fast_step step_turn
  stepped_running {mem'} {s'} {c'} {r} h e = by given
    where
      by : (given : Option ℕ) → Stepped board mem s c entry given mem' s' c' r
      by None = record { turn = rw h e.turn; left = λ n. rw h (e.left n) }
      by (Some form) = let l = not_running s entry.core h in record { turn = rw (l, h) e.turn; left = λ n. rw (l, h) (e.left n) }

  -- one that is given a form
  stepped_given : {mem' s' c' : List ℕ} {r : Turn} → takes_given s entry given ≡ true → Entered board mem s c entry.core given mem' s' c' r
      → Stepped board mem s c entry given mem' s' c' r
  unfolding given_step given_turn
  stepped_given {mem'} {s'} {c'} {r} g e = by given (given_some s entry.core given g) e
    where
      by : (given : Option ℕ) → (is_linked s entry.core ≡ true) × (is_some given ≡ true) → Entered board mem s c entry.core given mem' s' c' r
          → Stepped board mem s c entry given mem' s' c' r
      by None g e = cc
      by (Some form) g e = record { turn = rw g.0 e.turn; left = λ n. rw g.0 (e.left n) }

  module _ {t : List ℕ} (q : t ≡ begun s entry) where
    pub step_idle : start.Idle ≡ start_of s entry given → Stepped board mem s c entry given mem t c Idle
    unfolding start_by
    step_idle r =
        let h = idle_from (runs s entry given) (interrupted s entry given) (takes_given s entry given) given r in
        rw (kept_then s entry given q h.0) (stepped_idle h.0 h.1)

    pub step_interrupted : {s' : List ℕ} {o : Outcome} → start.Interrupt ≡ start_of s entry given → Executed board.vectors mem t entry.core (interruption t entry.core) mem s' (tells o no_store)
        → Stepped board mem s c entry given mem s' c (Unfetched o)
    unfolding start_by
    step_interrupted {s'} {o} r x =
        let h = interrupt_from (runs s entry given) (interrupted s entry given) (takes_given s entry given) given r in
        stepped_running h.0
        (entered_interrupted board mem (latched s entry.core entry.lines) c entry.core h.1
        (subst (λ (t : List ℕ). Executed board.vectors mem t entry.core (interruption t entry.core) mem s' (tells o no_store)) (latched_then s entry given q h.0) x))

    pub step_executed : {f : Option ℕ} {mem' s' c' : List ℕ} {r : Turn} → start.Execute f ≡ start_of s entry given → Entered board mem t c entry.core f mem' s' c' r
        → Stepped board mem s c entry given mem' s' c' r
    unfolding start_by
    step_executed {f} {mem'} {s'} {c'} {r} p e = go (execute_from (runs s entry given) (interrupted s entry given) (takes_given s entry given) given f p) e
      where
        go : {f : Option ℕ} → Executes (runs s entry given) (interrupted s entry given) (takes_given s entry given) given f → Entered board mem t c entry.core f mem' s' c' r
            → Stepped board mem s c entry given mem' s' c' r
        go (fetches h g) e =
            stepped_running h (subst (λ (t : List ℕ). Entered board mem t c entry.core None mem' s' c' r) (latched_then s entry given q h) e)
        go (takes h g) e = stepped_given g (subst (λ (t : List ℕ). Entered board mem t c entry.core given mem' s' c' r) (kept_then s entry given q h) e)

-- ---- the mode that goes straight on

pub straight_undisturbed : (s₀ s levels : List ℕ) (entry : Scheduled) (i : ℕ) → entry.lines ≡ get_or levels i 0 → Mode entry.core (word_at s entry.core mode_at)
    → (is_quiet s₀ levels ≡ true → word_at s entry.core picsr_at ≡ 0) → word_at s entry.core mode_at ≡ straight_mode s₀ levels → Undisturbed s entry
unfolding straight_mode
straight_undisturbed s₀ s levels entry i e m n h = go (is_quiet s₀ levels) refl h
  where
    none : {core m : ℕ} → Mode core m → m ≡ 4 → ⊥
    none (own is_halted) z = omega arith
    none (own is_running_lem) z = omega arith
    none (is_linked_lem h) z = omega arith

    go : (b : Bool) → is_quiet s₀ levels ≡ b → word_at s entry.core mode_at ≡ (if b then running else 4) → Undisturbed s entry
    go true q z = record { runs = z; low = e ∙ quiet_low s₀ levels q i; unlatched = n q }
    go false q z = absurd (none m z)
