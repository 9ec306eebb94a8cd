-- One linked core, case by case, as its code goes. Assumes nothing.
use Rattle.std.proofs.Common.{◌≡◌, ℕ, ◌+◌, ◌-◌, ◌*◌, ◌/◌, ◌%◌, ◌^◌, ◌<◌, Bool, true, false, ◌||◌, eqb, ltb, List, [], ◌∷◌, ◌++◌, length, get_or, take, drop, sym, refl, ap, ◌∙◌, subst, ap₂, add-one, arith, lt→ltb, length-drop, length-set, take-append-drop, length-take-le, get_or-drop, get_or-take, ext_get_or, eq-eqb, ne_eqb}
use borrow.Rule.Slice.PartMut.{put_mid}
use lib.Seq.{set-get_or}
use Rattle.std.specs.Prelude.{if◌then◌else◌}
use Rattle.bits.proofs.Tests.{and_both, T_of}
use Rattle.bits.proofs.Cases.{by_equality, if_both}
use Rattle.isa.specs.Entry.{kind_of_entry, fields_of}
use Rattle.isa.proofs.Registers.{fields_registers}
use Rattle.arith.specs.Sums.{address_sum}
use Rattle.effect.specs.State.{state_words, pc_at, delay_at, target_at, sr_at, epcr_at, eear_at, esr_at, link_at, link_address_at, mode_at, machi_at, maclo_at, picmr_at, picsr_at, halted, linked, running}
use Rattle.effect.specs.Board.{Board}
use Rattle.effect.specs.declared.types.Flow.{Flow}
use Rattle.effect.specs.declared.types.Effect.{Effect}
use Rattle.effect.specs.declared.types.Inputs.{Inputs}
use Rattle.commit.specs.Commit.{word_at, put, core_count, inputs, put_value, own_state, clear_links, states_after, memory_after, writes_memory, touched}
use Rattle.semantics.specs.Meaning.{meaning, effect_of}
use Rattle.effect.specs.Effect.{completed, no_store, in_slot}
use Rattle.lawful.proofs.Commit.{puts, seen, length_puts, puts_seen, puts_other, changes, changes_inside, own_puts, length_value}
use Rattle.lawful.proofs.Links.{link_of}
use Rattle.lawful.proofs.States.{length_states}
use Rattle.lawful.proofs.Instruction.{no_store_kept}
use Rattle.lawful.proofs.Raised.{raised_stores_nothing, quiet_others, passing_kept, return_goes, register_jump_goes, register_call_goes}
use Rattle.lawful.specs.Accepted.{AllAccepted}
use Rattle.refusal.specs.Lent.{Lent, lent, board_of}
use Rattle.steps.specs.Fast.{emptied}
use Rattle.steps.specs.Inner.{IsForm, Right, Runnable, FormExecuted}
use Rattle.linked.specs.Linked.{is_linked, lead_kind, jumps_to_register, is_return, with_flow, follower_inputs, follower_effect, completes, Shared, taking, followed, followers}
use Rattle.linked.specs.Inner.{unscheduled, shared, relinked, reads_nothing, Leads, Follows, FollowedIf}
use Rattle.linked.specs.declared.follow.Lead.{Lead}
use Rattle.linked.proofs.Alone.{mode_after}
use Rattle.linked.proofs.Followers.{length_flow, flow_accepted, follower_sound, length_followers, followers_accepted, followers_right}

-- ---- states word by word

pub same_states : (a b : List ℕ) → length a ≡ length b → ((core j : ℕ) → j < state_words → word_at a core j ≡ word_at b core j) → a ≡ b
same_states a b n q =
    ext_get_or 0 a b n
    (λ i h.
    let e : i / state_words * state_words + i % state_words ≡ i = omega arith in
    subst (λ (i : ℕ). get_or a i 0 ≡ get_or b i 0) e (q (i / state_words) (i % state_words) (omega arith)))

-- PC, delay and target, put
abbrev flow_puts : Flow → List (ℕ × ℕ) → List (ℕ × ℕ)
flow_puts f l = (pc_at, f.pc) ∷ (delay_at, f.delay) ∷ (target_at, f.target) ∷ l

module _ (s : List ℕ) (core : ℕ) (f : Flow) where
  flow_seen : (j : ℕ) → core * state_words + j < length s → word_at (with_flow s core f) core j ≡ seen (flow_puts f []) j (word_at s core j)
  unfolding with_flow
  flow_seen j h = puts_seen (flow_puts f []) s core j h

  flow_another : (c j : ℕ) → (c ≡ core → ⊥) → j < state_words → word_at (with_flow s core f) c j ≡ word_at s c j
  unfolding with_flow
  flow_another c j n h = puts_other (flow_puts f []) s core c j tt n h

  pub flow_mode : core < core_count s → word_at (with_flow s core f) core mode_at ≡ word_at s core mode_at
  flow_mode h = flow_seen mode_at (omega arith)

-- a place that is none of these three
unflowed : (f : Flow) (l : List (ℕ × ℕ)) (j d : ℕ) → (j ≡ pc_at → ⊥) → (j ≡ delay_at → ⊥) → (j ≡ target_at → ⊥) → seen (flow_puts f l) j d ≡ seen l j d
unflowed f l j d p q r = ap (seen l j) none
  where
    none : (if eqb target_at j then f.target else if eqb delay_at j then f.delay else if eqb pc_at j then f.pc else d) ≡ d
    none = rw (ne_eqb pc_at j (λ z. p (sym z)), ne_eqb delay_at j (λ z. q (sym z)), ne_eqb target_at j (λ z. r (sym z)))

-- ---- the code lends core 0's flow to a core before it executes. What is committed overwrites that flow, and nothing else is read of it.

module _ (s : List ℕ) (core : ℕ) (inside : core < core_count s) (f : Flow) where
  abbrev with_lent : List ℕ
  with_lent = with_flow s core f

  -- a place that it is not at
  lent_word : (j : ℕ) → j < state_words → (j ≡ pc_at → ⊥) → (j ≡ delay_at → ⊥) → (j ≡ target_at → ⊥) → word_at with_lent core j ≡ word_at s core j
  lent_word j h a b d = flow_seen s core f j (omega arith) ∙ unflowed f [] j (word_at s core j) a b d

  lent_register : (j : ℕ) → j < 32 → word_at with_lent core j ≡ word_at s core j
  lent_register j h = lent_word j (omega arith) (λ z. omega arith) (λ z. omega arith) (λ z. omega arith)

  lent_special : (j : ℕ) → target_at < j → j < state_words → word_at with_lent core j ≡ word_at s core j
  lent_special j h i = lent_word j i (λ z. omega arith) (λ z. omega arith) (λ z. omega arith)

  lent_inputs : (lead : Lead) → follower_inputs lead (inputs with_lent core (fields_of lead.form)) ≡ follower_inputs lead (inputs s core (fields_of lead.form))
  unfolding follower_inputs inputs
  lent_inputs lead =
      let r = fields_registers lead.form in
      simp (
        lent_register (fields_of lead.form).a r.a,
        lent_register (fields_of lead.form).b r.b,
        lent_special sr_at (omega arith) (omega arith),
        lent_special epcr_at (omega arith) (omega arith),
        lent_special eear_at (omega arith) (omega arith),
        lent_special esr_at (omega arith) (omega arith),
        lent_special link_at (omega arith) (omega arith),
        lent_special link_address_at (omega arith) (omega arith),
        lent_special machi_at (omega arith) (omega arith),
        lent_special maclo_at (omega arith) (omega arith),
        lent_special picmr_at (omega arith) (omega arith),
        lent_special picsr_at (omega arith) (omega arith),
      )

  module _ (vectors : List ℕ) (e : Effect) (h : e.place < state_words) where
    valued_word : (j : ℕ) → j < state_words → (j ≡ pc_at → ⊥) → (j ≡ delay_at → ⊥) → (j ≡ target_at → ⊥) → word_at (put_value with_lent core e) core j ≡ word_at (put_value s core e) core j
    unfolding put_value
    valued_word j i a b d = go (eqb e.place 0)
      where
        at : (t : List ℕ) → length t ≡ length s → word_at (put t core e.place e.value) core j ≡ (if eqb e.place j then e.value else word_at t core j)
        at t n = puts_seen ((e.place, e.value) ∷ []) t core j (omega arith)

        go : (z : Bool) → word_at (if z then with_lent else put with_lent core e.place e.value) core j ≡ word_at (if z then s else put s core e.place e.value) core j
        go true = lent_word j i a b d
        go false = at with_lent (length_flow s core f) ∙ ap (λ (w : ℕ). if eqb e.place j then e.value else w) (lent_word j i a b d) ∙ sym (at s refl)

    valued_other : (c j : ℕ) → (c ≡ core → ⊥) → j < state_words → word_at (put_value with_lent core e) c j ≡ word_at (put_value s core e) c j
    unfolding put_value
    valued_other c j n i = go (eqb e.place 0)
      where
        at : (t : List ℕ) → word_at (put t core e.place e.value) c j ≡ word_at t c j
        at t = puts_other ((e.place, e.value) ∷ []) t core c j (and_both (ltb e.place state_words) true (lt→ltb e.place state_words h) tt) n i

        go : (z : Bool) → word_at (if z then with_lent else put with_lent core e.place e.value) c j ≡ word_at (if z then s else put s core e.place e.value) c j
        go true = flow_another s core f c j n i
        go false = at with_lent ∙ flow_another s core f c j n i ∙ sym (at s)

    abbrev made : List (ℕ × ℕ)
    made = changes vectors e e.accumulated e.outcome

    seen_same : (j v w : ℕ) → ((j ≡ pc_at → ⊥) → (j ≡ delay_at → ⊥) → (j ≡ target_at → ⊥) → v ≡ w) → seen made j v ≡ seen made j w
    seen_same j v w q =
        by_equality j pc_at (λ z. rw z refl) (λ a.
        by_equality j delay_at (λ z. rw z refl) (λ b.
        by_equality j target_at (λ z. rw z refl) (λ d.
        ap (seen made j) (q a b d))))

    lent_own : own_state vectors with_lent core e ≡ own_state vectors s core e
    lent_own =
        let n : length (put_value with_lent core e) ≡ length s = length_value with_lent core e ∙ length_flow s core f in
        let m : length (put_value s core e) ≡ length s = length_value s core e in
        own_puts vectors with_lent core e
        ∙ same_states (puts made (put_value with_lent core e) core) (puts made (put_value s core e) core)
        (length_puts made (put_value with_lent core e) core ∙ n ∙ sym (length_puts made (put_value s core e) core ∙ m))
        (λ c j i.
        by_equality c core
        (λ z. rw z
        (puts_seen made (put_value with_lent core e) core j (omega arith) ∙ seen_same j _ _ (valued_word j i)
        ∙ sym (puts_seen made (put_value s core e) core j (omega arith))))
        (λ o.
        puts_other made (put_value with_lent core e) core c j (changes_inside vectors e e.accumulated e.outcome) o i ∙ valued_other c j o i
        ∙ sym (puts_other made (put_value s core e) core c j (changes_inside vectors e e.accumulated e.outcome) o i)))
        ∙ sym (own_puts vectors s core e)

    lent_states_lem : states_after vectors with_lent core e ≡ states_after vectors s core e
    unfolding states_after
    lent_states_lem =
        ap₂ (λ (n : ℕ) (t : List ℕ). if writes_memory e then clear_links (n / state_words) t (touched e * 4) else t) (length_flow s core f) lent_own

-- ---- l.rfe, l.jr, l.jalr: an effect that keeps SR and the link, once its core has core 0's flow, leaves its value and core 0's flow

module _ (vectors s : List ℕ) (core : ℕ) (lead : Lead) (place v : ℕ) (h : place < 32) (inside : core < core_count s) (m : word_at s core mode_at ≡ linked) where
  abbrev lent_to : List ℕ
  lent_to = with_flow s core lead.before

  abbrev valued : List ℕ → List ℕ
  valued t = if eqb place 0 then t else put t core place v

  module _ (e : Effect) (flow : Flow) (q : e ≡ completed place v (word_at lent_to core sr_at) flow (link_of lent_to core) running no_store) where
    abbrev left : List ℕ
    left = states_after vectors lent_to core e

    length_left : length left ≡ length s
    length_left = length_states vectors lent_to core e ∙ length_flow s core lead.before

    length_valued : (t : List ℕ) → length (valued t) ≡ length t
    length_valued t = if_both (λ (u : List ℕ). length u ≡ length t) (eqb place 0) refl (simp length-set)

    -- a place of the core's own that its flow and mode are not at
    own_kept : (j : ℕ) → j < state_words → (j ≡ pc_at → ⊥) → (j ≡ delay_at → ⊥) → (j ≡ target_at → ⊥) → (j ≡ mode_at → ⊥) → word_at left core j ≡ word_at (valued s) core j
    own_kept j i a b d o =
        let n : length lent_to ≡ length s = length_flow s core lead.before in
        let same : word_at lent_to core j ≡ word_at s core j = flow_seen s core lead.before j (omega arith) ∙ unflowed lead.before [] j (word_at s core j) a b d in
        passing_kept vectors lent_to core e place v flow running q h (omega arith) j i a b d o ∙ go same (eqb place 0)
      where
        at : (t : List ℕ) → length t ≡ length s → word_at (put t core place v) core j ≡ (if eqb place j then v else word_at t core j)
        at t n = puts_seen ((place, v) ∷ []) t core j (omega arith)

        go : word_at lent_to core j ≡ word_at s core j → (z : Bool) → word_at (if z then lent_to else put lent_to core place v) core j ≡ word_at (if z then s else put s core place v) core j
        go same true = same
        go same false = at lent_to (length_flow s core lead.before) ∙ ap (λ (w : ℕ). if eqb place j then v else w) same ∙ sym (at s refl)

    own_mode : word_at (valued s) core mode_at ≡ linked
    own_mode =
        if_both (λ (t : List ℕ). word_at t core mode_at ≡ linked) (eqb place 0) m
        (puts_seen ((place, v) ∷ []) s core mode_at (omega arith) ∙ rw (ne_eqb place mode_at (λ z. omega arith)) m)

    own_word_lem : (j : ℕ) → j < state_words → seen (flow_puts lead.after ((mode_at, linked) ∷ [])) j (word_at left core j) ≡ seen (flow_puts lead.after []) j (word_at (valued s) core j)
    own_word_lem j i =
        by_equality j pc_at (λ z. rw z refl) (λ a.
        by_equality j delay_at (λ z. rw z refl) (λ b.
        by_equality j target_at (λ z. rw z refl) (λ d.
        by_equality j mode_at (λ z. rw z (sym own_mode)) (λ o.
        unflowed lead.after ((mode_at, linked) ∷ []) j (word_at left core j) a b d
        ∙ rw (ne_eqb mode_at j (λ z. o (sym z))) (own_kept j i a b d o)
        ∙ sym (unflowed lead.after [] j (word_at (valued s) core j) a b d)))))

    other_word : (c j : ℕ) → (c ≡ core → ⊥) → j < state_words → word_at left c j ≡ word_at (valued s) c j
    other_word c j n i =
        quiet_others vectors lent_to core e c j (rw q) (rw q (omega arith)) n i ∙ flow_another s core lead.before c j n i
        ∙ if_both (λ (t : List ℕ). word_at s c j ≡ word_at t c j) (eqb place 0) refl (sym (puts_other ((place, v) ∷ []) s core c j (and_both (ltb place state_words) true (lt→ltb place state_words (omega arith)) tt) n i))

    pub goes_along : taking lead left core e ≡ with_flow (valued s) core lead.after
    unfolding taking with_flow
    goes_along =
        let r : e.mode ≡ running = ap (λ (e : Effect). e.mode) q in
        ap (λ (w : ℕ). put (with_flow left core lead.after) core mode_at (if eqb w halted then halted else linked)) r
        ∙ same_states (puts (flow_puts lead.after ((mode_at, linked) ∷ [])) left core) (puts (flow_puts lead.after []) (valued s) core)
        (length_puts (flow_puts lead.after ((mode_at, linked) ∷ [])) left core ∙ length_left ∙ sym (length_puts (flow_puts lead.after []) (valued s) core ∙ length_valued s))
        (λ c j i.
        by_equality c core
        (λ z. rw z
        (let n : length left ≡ length s = length_left in
        let k : length (valued s) ≡ length s = length_valued s in
        puts_seen (flow_puts lead.after ((mode_at, linked) ∷ [])) left core j (omega arith) ∙ own_word_lem j i
        ∙ sym (puts_seen (flow_puts lead.after []) (valued s) core j (omega arith))))
        (λ n.
        puts_other (flow_puts lead.after ((mode_at, linked) ∷ [])) left core c j tt n i ∙ other_word c j n i
        ∙ sym (puts_other (flow_puts lead.after []) (valued s) core c j tt n i)))

-- ---- the words of a core put back

-- only these differ
module _ (s s' : List ℕ) (core n : ℕ) (q : n ≡ state_words) (inside : core < core_count s) (l : length s' ≡ length s)
    (others : (c j : ℕ) → (c ≡ core → ⊥) → j < state_words → word_at s' c j ≡ word_at s c j) where
  outside : (i : ℕ) → (i / state_words ≡ core → ⊥) → get_or s' i 0 ≡ get_or s i 0
  outside i m =
      let e : i / state_words * state_words + i % state_words ≡ i = omega arith in
      subst (λ (i : ℕ). get_or s' i 0 ≡ get_or s i 0) e (others (i / state_words) (i % state_words) m (omega arith))

  same_before : take (core * state_words) s' ≡ take (core * state_words) s
  same_before =
      let a : length (take (core * state_words) s') ≡ core * state_words = length-take-le (core * state_words) s' (omega arith) in
      let b : length (take (core * state_words) s) ≡ core * state_words = length-take-le (core * state_words) s (omega arith) in
      ext_get_or 0 (take (core * state_words) s') (take (core * state_words) s) (a ∙ sym b)
      (λ i h.
      let g : i < core * state_words = omega arith in
      get_or-take (core * state_words) s' i 0 g ∙ outside i (λ z. omega arith) ∙ sym (get_or-take (core * state_words) s i 0 g))

  same_after : drop n (drop (core * state_words) s') ≡ drop n (drop (core * state_words) s)
  same_after =
      ext_get_or 0 (drop n (drop (core * state_words) s')) (drop n (drop (core * state_words) s)) (simp length-drop (omega arith))
      (λ i h.
      get_or-drop n (drop (core * state_words) s') i 0 ∙ get_or-drop (core * state_words) s' (n + i) 0
      ∙ outside (core * state_words + (n + i)) (λ z. omega arith)
      ∙ sym (get_or-drop n (drop (core * state_words) s) i 0 ∙ get_or-drop (core * state_words) s (n + i) 0))

  words_back : put_mid (core * state_words) n s' (take n (drop (core * state_words) s)) ≡ s
  words_back =
      ap₂ (λ (a b : List ℕ). a ++ (take n (drop (core * state_words) s) ++ b)) same_before same_after
      ∙ ap (λ (b : List ℕ). take (core * state_words) s ++ b) (take-append-drop n (drop (core * state_words) s)) ∙ take-append-drop (core * state_words) s

-- ---- the mode of a core that an instruction left

relinks : (w : List ℕ) (core m : ℕ) → word_at w core mode_at ≡ m → relinked w core ≡ put w core mode_at (if eqb m halted then halted else linked)
relinks w core m q =
    by_equality m halted
    (λ z.
    let e : word_at w core mode_at ≡ halted = q ∙ z in
    rw (eq-eqb _ _ e, eq-eqb _ _ z) (sym (ap (λ (v : ℕ). put w core mode_at v) (sym e) ∙ set-get_or w (core * state_words + mode_at) 0)))
    (λ n. rw (q, ne_eqb _ _ n))

shared_same : {mem mem' s s' cache cache' : List ℕ} → mem ≡ mem' → s ≡ s' → cache ≡ cache' → shared mem s cache ≡ shared mem' s' cache'
shared_same {mem} {mem'} {s} {s'} {cache} {cache'} p q r = ap₂ (λ (m t : List ℕ). shared m t cache) p q ∙ ap (shared mem' s') r

-- ---- what can be run

-- what a schedule can be run on
pub unscheduled_runnable : {mem s schedule levels : List ℕ} {limit : ℕ} {vectors cache : List ℕ} → Runnable (lent mem s schedule levels limit vectors) cache
    → Runnable (unscheduled mem s limit vectors) cache
unscheduled_runnable r = record {
  few_cores = r.few_cores;
  few_entries = omega arith;
  one_level_each = refl;
  cores_there = λ i h. absurd (let z : i < 0 = h in omega arith);
  seven_vectors = r.seven_vectors;
  vectors_lawful = r.vectors_lawful;
  accepted = r.accepted;
  backed = r.backed;
  right = r.right;
}

-- and an entry of one of its cores
pub scheduled_runnable : {mem s : List ℕ} {limit : ℕ} {vectors cache : List ℕ} → Runnable (unscheduled mem s limit vectors) cache → (core lines : ℕ) → core < core_count s
    → Runnable (lent mem s (core ∷ []) (lines ∷ []) limit vectors) cache
scheduled_runnable r core lines h = record {
  few_cores = r.few_cores;
  few_entries = omega arith;
  one_level_each = refl;
  cores_there = λ i g. let z : i ≡ 0 = omega arith in rw z h;
  seven_vectors = r.seven_vectors;
  vectors_lawful = r.vectors_lawful;
  accepted = r.accepted;
  backed = r.backed;
  right = r.right;
}

-- another board of the same cores
module _ (mem s mem' s' : List ℕ) (limit : ℕ) (vectors cache cache' : List ℕ) (n : length s' ≡ length s) where
  abbrev lent_board : Board
  lent_board = board_of (unscheduled mem s limit vectors)

  pub board_again : board_of (unscheduled mem' s' limit vectors) ≡ lent_board
  board_again = ap (λ (n : ℕ). record { cores = n / state_words; limit = limit; vectors = vectors }) n

  pub runnable_again : Runnable (unscheduled mem s limit vectors) cache → length mem' ≡ length mem → length cache' ≡ length cache
      → AllAccepted lent_board s' → Right lent_board cache' mem' → Runnable (unscheduled mem' s' limit vectors) cache'
  runnable_again r m k a g =
      record {
        few_cores = omega (arith, r.few_cores);
        few_entries = r.few_entries;
        one_level_each = refl;
        cores_there = λ i h. absurd (let z : i < 0 = h in omega arith);
        seven_vectors = r.seven_vectors;
        vectors_lawful = r.vectors_lawful;
        accepted = subst (λ (b : Board). AllAccepted b s') (sym board_again) a;
        backed = omega (arith, r.backed);
        right = subst (λ (b : Board). Right b cache' mem') (sym board_again) g;
      }

-- ---- a core that follows a lead

or_none : (a b : Bool) → a || b ≡ false → (a ≡ false) × (b ≡ false)
or_none true b h = absurd (T_of false (sym h))
or_none false b h = (refl, h)

-- the code has the kind as the form's top byte
pub kind_is : {form k : ℕ} → form < 2 ^ 64 → form / 2 ^ 56 ≡ k → kind_of_entry form ≡ k
kind_is {form} {k} h q = omega arith

pub reads_own : (form : ℕ) → form < 2 ^ 64 → (form / 2 ^ 56 ≡ 13 → ⊥) → (form / 2 ^ 56 ≡ 14 → ⊥) → (form / 2 ^ 56 ≡ 15 → ⊥) → reads_nothing (kind_of_entry form) ≡ false
reads_own form h a b d =
    let same : kind_of_entry form ≡ form / 2 ^ 56 = omega arith in
    rw (ne_eqb (kind_of_entry form) 13 (λ z. a (sym same ∙ z)), ne_eqb (kind_of_entry form) 14 (λ z. b (sym same ∙ z)), ne_eqb (kind_of_entry form) 15 (λ z. d (sym same ∙ z)))

-- any other kind reads the core's own, but for the flow
follower_same : (lead : Lead) (x : Inputs) → reads_nothing (lead_kind lead) ≡ false → x.flow ≡ lead.before → follower_inputs lead x ≡ x
unfolding follower_inputs
follower_same lead x h q =
    let n = or_none (is_return (lead_kind lead)) (jumps_to_register (lead_kind lead)) h in
    rw (← q, n.0, n.1)

module _ (board : Board) (lead : Lead) (mem s cache : List ℕ) (core : ℕ) (inside : core < core_count s) where
  -- what the core does with core 0's flow lent is what it does
  abbrev does : Effect
  does = follower_effect board lead mem (with_flow s core lead.before) core

  does_the_same : follower_effect board lead mem s core ≡ does
  unfolding follower_effect
  does_the_same = ap (meaning board mem (lead_kind lead)) (sym (lent_inputs s core inside lead.before lead))

  followed_completed : completes does ≡ true → followed board lead (shared mem s cache) core
      ≡ shared (memory_after mem does) (taking lead (states_after board.vectors (with_flow s core lead.before) core does) core does) (emptied does cache)
  unfolding followed
  followed_completed h = rw (does_the_same, ← lent_states_lem s core inside lead.before board.vectors does (follower_sound board lead mem (with_flow s core lead.before) core).place_lt, h)

  followed_raised : completes does ≡ false → followed board lead (shared mem s cache) core ≡ shared mem (put s core mode_at halted) cache
  unfolding followed
  followed_raised h = rw (does_the_same, h)

  none_emptied : writes_memory does ≡ false → emptied does cache ≡ cache
  unfolding emptied
  none_emptied h = rw h

module _ (mem s : List ℕ) (limit : ℕ) (vectors cache : List ℕ) (core : ℕ) (lead : Lead) (f : Follows (unscheduled mem s limit vectors) cache core lead) where
  abbrev board : Board
  board = board_of (unscheduled mem s limit vectors)

  abbrev lent_states : List ℕ
  lent_states = with_flow s core lead.before

  abbrev effect : Effect
  effect = does board lead mem s cache core f.inside

  abbrev read_by : Inputs
  read_by = follower_inputs lead (inputs lent_states core (fields_of lead.form))

  going : (place v : ℕ) (flow : Flow) → place < 32 → effect ≡ completed place v (word_at lent_states core sr_at) flow (link_of lent_states core) running no_store
      → shared mem (with_flow (if eqb place 0 then s else put s core place v) core lead.after) cache ≡ followed board lead (shared mem s cache) core
  going place v flow h q =
      let none : writes_memory effect ≡ false = ap writes_memory q in
      sym (followed_completed board lead mem s cache core f.inside (ap completes q)
      ∙ ap (λ (l : List ℕ). shared (memory_after mem effect) l (emptied effect cache)) (goes_along vectors s core lead place v h f.inside f.core_linked effect flow q)
      ∙ ap₂ (λ (m l : List ℕ). shared m (with_flow (if eqb place 0 then s else put s core place v) core lead.after) l) (no_store_kept mem effect none) (none_emptied board lead mem s cache core f.inside none))

  in_no_slot : reads_nothing (lead_kind lead) ≡ true → in_slot read_by ≡ false
  unfolding follower_inputs
  in_no_slot h = let d : lead.before.delay ≡ 0 = f.leads.no_slot h in rw d

  pub follows_return : lead_kind lead ≡ 13 → shared mem (with_flow s core lead.after) cache ≡ followed board lead (shared mem s cache) core
  unfolding follower_effect follower_inputs inputs
  follows_return k =
      going 0 0 (record { pc = word_at lent_states core epcr_at; delay = 0; target = 0 }) (omega arith)
      (ap (λ (n : ℕ). meaning board mem n read_by) k ∙ return_goes board mem read_by (in_no_slot (rw k)) ∙ rw k)

  pub follows_jump : lead_kind lead ≡ 14 → shared mem (with_flow s core lead.after) cache ≡ followed board lead (shared mem s cache) core
  unfolding follower_effect follower_inputs inputs
  follows_jump k =
      going 0 0 _ (omega arith)
      (ap (λ (n : ℕ). meaning board mem n read_by) k ∙ register_jump_goes board mem read_by (in_no_slot (rw k)) (rw k f.leads.after_lawful.target_multiple))

  pub follows_call : lead_kind lead ≡ 15 → shared mem (with_flow (put s core 9 (address_sum lead.before.pc 8)) core lead.after) cache ≡ followed board lead (shared mem s cache) core
  unfolding follower_effect follower_inputs inputs
  follows_call k =
      going 9 (address_sum lead.before.pc 8) (record { pc = address_sum lead.before.pc 4; delay = 1; target = read_by.b }) (omega arith)
      (ap (λ (n : ℕ). meaning board mem n read_by) k ∙ register_call_goes board mem read_by (in_no_slot (rw k)) (rw k f.leads.after_lawful.target_multiple))

  -- ---- any other instruction

  -- the core alone, with core 0's flow lent
  abbrev alone : Lent
  alone = lent mem lent_states (core ∷ []) (0 ∷ []) limit vectors

  same_board : board_of alone ≡ board
  same_board = board_again mem s mem lent_states limit vectors cache cache (length_flow s core lead.before)

  pub alone_runnable : Runnable alone cache
  alone_runnable =
      let n : length lent_states ≡ length s = length_flow s core lead.before in
      scheduled_runnable
      (runnable_again mem s mem lent_states limit vectors cache cache n f.runnable refl refl
      (flow_accepted s core f.inside f.runnable.accepted lead.before f.leads.before_lawful) f.runnable.right)
      core 0 (omega (arith, f.inside))

  pub alone_linked : word_at lent_states core mode_at ≡ linked
  alone_linked = flow_mode s core lead.before f.inside ∙ f.core_linked

  lent_flow : (inputs lent_states core (fields_of lead.form)).flow ≡ lead.before
  unfolding inputs
  lent_flow =
      let pc : word_at lent_states core pc_at ≡ lead.before.pc = flow_seen s core lead.before pc_at (omega (arith, f.inside)) in
      let delay : word_at lent_states core delay_at ≡ lead.before.delay = flow_seen s core lead.before delay_at (omega (arith, f.inside)) in
      let target : word_at lent_states core target_at ≡ lead.before.target = flow_seen s core lead.before target_at (omega (arith, f.inside)) in
      rw (pc, delay, target)

  module _ (k : reads_nothing (lead_kind lead) ≡ false) where
    same_effect : effect_of (board_of alone) mem lent_states core lead.form ≡ effect
    unfolding follower_effect
    same_effect =
        ap₂ (λ (b : Board) (x : Inputs). meaning b mem (lead_kind lead) x) same_board (sym (follower_same lead (inputs lent_states core (fields_of lead.form)) k lent_flow))

    -- what it left, by the effect's own name
    module _ {mem' s' cache' : List ℕ} {r : Bool} (x : FormExecuted alone cache core lead.form mem' s' cache' r) where
      memory_left : mem' ≡ memory_after mem effect
      memory_left = x.memory ∙ ap (memory_after mem) same_effect

      states_left : s' ≡ states_after vectors lent_states core effect
      states_left = x.states ∙ ap (states_after vectors lent_states core) same_effect

      entries_left : cache' ≡ emptied effect cache
      entries_left = x.entries_left ∙ ap (λ (e : Effect). emptied e cache) same_effect

      completed_as : completes effect ≡ r
      completed_as = sym (x.completed ∙ ap completes same_effect)

      length_after : length s' ≡ length s
      length_after = ap length states_left ∙ length_states vectors lent_states core effect ∙ length_flow s core lead.before

    module _ {mem' s' cache' : List ℕ} where
      -- it completed: the core takes core 0's flow, and is linked again unless it halted
      pub follows_completed : FormExecuted alone cache core lead.form mem' s' cache' true
          → shared mem' (relinked (with_flow s' core lead.after) core) cache' ≡ followed board lead (shared mem s cache) core
      unfolding taking
      follows_completed x =
          let w : List ℕ = with_flow s' core lead.after in
          let n : length s' ≡ length s = length_after x in
          let l : length lent_states ≡ length s = length_flow s core lead.before in
          let mode : word_at w core mode_at ≡ effect.mode =
          flow_mode s' core lead.after (omega (arith, f.inside)) ∙ ap (λ (t : List ℕ). word_at t core mode_at) (states_left x)
          ∙ mode_after vectors lent_states core effect (omega (arith, f.inside)) in
          shared_same (memory_left x) (relinks w core effect.mode mode ∙ ap (λ (t : List ℕ). taking lead t core effect) (states_left x)) (entries_left x)
          ∙ sym (followed_completed board lead mem s cache core f.inside (completed_as x))

      -- it raised: the core has its words back
      pub follows_raised : (n : ℕ) → n ≡ state_words → FormExecuted alone cache core lead.form mem' s' cache' false
          → shared mem' (put (put_mid (core * state_words) n s' (take n (drop (core * state_words) s))) core mode_at halted) cache' ≡ followed board lead (shared mem s cache) core
      unfolding follower_effect
      follows_raised n q x =
          let none : writes_memory effect ≡ false = raised_stores_nothing board mem read_by (lead_kind lead) (completed_as x) in
          let others : (c j : ℕ) → (c ≡ core → ⊥) → j < state_words → word_at s' c j ≡ word_at s c j =
          λ c j m i.
          ap (λ (t : List ℕ). word_at t c j) (states_left x) ∙ quiet_others vectors lent_states core effect c j none (follower_sound board lead mem lent_states core).place_lt m i
          ∙ flow_another s core lead.before c j m i in
          shared_same (memory_left x ∙ no_store_kept mem effect none)
          (ap (λ (t : List ℕ). put t core mode_at halted) (words_back s s' core n q f.inside (length_after x) others))
          (entries_left x ∙ none_emptied board lead mem s cache core f.inside none)
          ∙ sym (followed_raised board lead mem s cache core f.inside (completed_as x))

  -- ---- the same, as the code has it: t is the states with the flow lent

  abbrev executed_on : List ℕ → List ℕ → List ℕ → List ℕ → Bool → Type 0
  executed_on t mem' s' cache' r = FormExecuted (lent mem t (core ∷ []) (0 ∷ []) limit vectors) cache core lead.form mem' s' cache' r

  module _ {t : List ℕ} (p : t ≡ lent_states) where
    pub alone_asked : Runnable (lent mem t (core ∷ []) (0 ∷ []) limit vectors) cache × ((word_at t core mode_at ≡ linked) × IsForm lead.form)
    alone_asked = rw p (alone_runnable, (alone_linked, f.leads.is_form))

    module _ (k : reads_nothing (lead_kind lead) ≡ false) {mem' s' cache' : List ℕ} {r : Bool} (x : executed_on t mem' s' cache' r) where
      executed_as : {b : Bool} → r ≡ b → executed_on lent_states mem' s' cache' b
      executed_as {b} q = subst (λ (b : Bool). executed_on lent_states mem' s' cache' b) q (subst (λ (t : List ℕ). executed_on t mem' s' cache' r) p x)

      pub executes_completed : {w z : List ℕ} → r ≡ true → w ≡ with_flow s' core lead.after → z ≡ relinked w core
          → shared mem' z cache' ≡ followed board lead (shared mem s cache) core
      executes_completed q u v = ap (λ (l : List ℕ). shared mem' l cache') (v ∙ ap (λ (l : List ℕ). relinked l core) u) ∙ follows_completed k (executed_as q)

      pub executes_raised : (n : ℕ) → n ≡ state_words → {own back z : List ℕ} → r ≡ false → own ≡ take n (drop (core * state_words) s) → back ≡ own
          → z ≡ put (put_mid (core * state_words) n s' back) core mode_at halted → shared mem' z cache' ≡ followed board lead (shared mem s cache) core
      executes_raised n m q u v w =
          ap (λ (l : List ℕ). shared mem' l cache') (w ∙ ap (λ (l : List ℕ). put (put_mid (core * state_words) n s' l) core mode_at halted) (v ∙ u))
          ∙ follows_raised k n m (executed_as q)

-- ---- the linked cores one after the other

module _ (mem s : List ℕ) (limit : ℕ) (vectors cache : List ℕ) (lead : Lead) (r : Runnable (unscheduled mem s limit vectors) cache) (leads : Leads lead) where
  abbrev led_board : Board
  led_board = board_of (unscheduled mem s limit vectors)

  abbrev at : ℕ → Shared
  at n = followers led_board lead n (shared mem s cache)

  -- what cores 1 to n leave
  module _ (n : ℕ) (h : n < core_count s) {mem' s' cache' : List ℕ} (q : shared mem' s' cache' ≡ at n) where
    same_length : length s' ≡ length s
    same_length = ap (λ (x : Shared). length x.states) q ∙ (length_followers led_board lead n (shared mem s cache)).states_length

    pub runnable_after : Runnable (unscheduled mem' s' limit vectors) cache'
    runnable_after =
        let z = length_followers led_board lead n (shared mem s cache) in
        runnable_again mem s mem' s' limit vectors cache cache' same_length r
        (ap (λ (x : Shared). length x.memory) q ∙ z.memory_length) (ap (λ (x : Shared). length x.entries) q ∙ z.entries_length)
        (subst (λ (x : Shared). AllAccepted led_board x.states) (sym q) (followers_accepted led_board lead n (shared mem s cache) r.vectors_lawful leads r.accepted h))
        (subst (λ (x : Shared). Right led_board x.entries x.memory) (sym q) (followers_right led_board lead n (shared mem s cache) r.right))

    -- and then core n + 1
    pub next_follows : {mem'' s'' cache'' : List ℕ} → FollowedIf (unscheduled mem' s' limit vectors) cache' (n + 1) lead mem'' s'' cache'' → shared mem'' s'' cache'' ≡ at (n + 1)
    unfolding followers
    next_follows f =
        f ∙ ap (λ (b : Board). if is_linked s' (n + 1) then followed b lead (shared mem' s' cache') (n + 1) else shared mem' s' cache') (board_again mem s mem' s' limit vectors cache cache' same_length)
        ∙ ap (λ (x : Shared). if is_linked x.states (n + 1) then followed led_board lead x (n + 1) else x) q ∙ rw add-one

  -- the same of a core other than 0, as the loop has it
  pub followers_next : (core : ℕ) → 0 < core → core < core_count s → {mem' s' cache' mem'' s'' cache'' : List ℕ} → shared mem' s' cache' ≡ at (core - 1)
      → FollowedIf (unscheduled mem' s' limit vectors) cache' core lead mem'' s'' cache'' → shared mem'' s'' cache'' ≡ at (core + 1 - 1)
  followers_next core h i {mem'} {s'} {cache'} {mem''} {s''} {cache''} q f =
      let e : core - 1 + 1 ≡ core = omega arith in
      let d : core - 1 + 1 ≡ core + 1 - 1 = omega arith in
      subst (λ (n : ℕ). shared mem'' s'' cache'' ≡ at n) d
      (next_follows (core - 1) (omega arith) q (subst (λ (n : ℕ). FollowedIf (unscheduled mem' s' limit vectors) cache' n lead mem'' s'' cache'') (sym e) f))
