-- An entry performed on a core's own state is the instruction of that core among all states. Assumes nothing.
use mathlib.Core.Bool.{true, false}
use mathlib.Core.List.{List, ◌++◌}
use mathlib.Core.Path.{◌≡◌, refl, sym, ap, ap₂, subst, ◌∙◌}
use Prim.Native.Nat.{ℕ, ◌+◌, ◌*◌, ◌/◌, ◌^◌, ◌<◌, ◌≤◌}
use native.Mathlib.Nat.{zero-add}
use native.Mathlib.Omega.{arith}
use lib.ListN.{length, take, drop, get_or, length-drop}
use Rattle.std.specs.Prelude.{Option, Some, None, option_map, is_some}
use Rattle.bits.specs.Word.{field}
use Rattle.isa.specs.Entry.{fields_of}
use Rattle.isa.specs.Register.{Registers}
use Rattle.isa.specs.declared.vectors.Cause.{Cause}
use Rattle.isa.proofs.Registers.{fields_registers}
use Rattle.effect.specs.State.{state_words, own_words, with_own_words}
use Rattle.effect.specs.Effect.{no_store, Outcome, raises, restart, faults}
use Rattle.effect.specs.declared.types.Inputs.{Inputs}
use Rattle.effect.specs.Board.{Board}
use Rattle.effect.specs.declared.types.Effect.{Effect}
use Rattle.effect.specs.declared.types.Store.{Store}
use Rattle.commit.specs.Commit.{word_at, inputs, no_fields, own_state, clear_links, core_count, writes_memory, touched, word_of, states_after}
use Rattle.commit.specs.Inner.{tells, own_inputs, entry_inputs, Owned, Performed}
use Rattle.commit.specs.declared.Done.{Done}
use Rattle.commit.proofs.Commits.{owned_as, performed_as, kept}
use Rattle.commit.proofs.Own.{own_word_at, own_inputs_at, own_committed, first_inputs}
use Rattle.semantics.specs.Meaning.{meaning, effect_of}
use Rattle.lawful.proofs.Commit.{length_own}
use Rattle.lawful.proofs.Sound.{meaning_sound}
use Rattle.exec.specs.Inner.{Performs, Executed, Executes}

-- the same effect under another name
pub executed_as : {e e' : Effect} → e ≡ e' → {vectors mem s mem' s' : List ℕ} {core : ℕ} {r : Done} → Executed vectors mem s core e mem' s' r → Executed vectors mem s core e' mem' s' r
executed_as p {vectors} {mem} {s} {mem'} {s'} {core} {r} x = subst (λ (f : Effect). Executed vectors mem s core f mem' s' r) p x

-- what the run is told of a store
pub none_told : (o : Option Store) → option_map (λ (s : Store). s.address) o ≡ None → is_some o ≡ false
none_told None h = refl
none_told (Some s) h = cc

pub some_told : (o : Option Store) {at : ℕ} → option_map (λ (s : Store). s.address) o ≡ Some at → (is_some o ≡ true) × (at / 4 ≡ word_of o)
some_told None h = cc
some_told (Some s) {at} h = let e : s.address ≡ at = cc in (refl, rw e)

-- ---- every core's state

-- and every core's link: s₁ is the states with the core's own committed
module _ {vectors mem own mem' own' : List ℕ} (s : List ℕ) {s₁ : List ℕ} (core : ℕ) {e : Effect} {r : Done} (p : Performed vectors mem own e mem' own' r) (q : s₁ ≡ own_state vectors s core e) where
  stored_as : {o : Option ℕ} → r.stored ≡ o → option_map (λ (s : Store). s.address) e.store ≡ o
  stored_as h = sym (ap (λ (d : Done). d.stored) p.done) ∙ h

  after_none : writes_memory e ≡ false → own_state vectors s core e ≡ states_after vectors s core e
  unfolding states_after
  after_none h = simp h

  after_store : writes_memory e ≡ true → clear_links (core_count s) (own_state vectors s core e) (touched e * 4) ≡ states_after vectors s core e
  unfolding states_after
  after_store h = simp h

  pub executed_kept : r.stored ≡ None → Executed vectors mem s core e mem' s₁ r
  executed_kept h = record { memory = p.memory; states = q ∙ after_none (none_told e.store (stored_as h)); done = p.done }

  pub executed_stored : {at : ℕ} → r.stored ≡ Some at → {s' : List ℕ} → s' ≡ clear_links (core_count s₁) s₁ (at / 4 * 4) → Executed vectors mem s core e mem' s' r
  executed_stored {at} h k =
      let t = some_told e.store (stored_as h) in
      let l = ap length q ∙ length_own vectors s core e in
      record {
        memory = p.memory;
        states =
            k ∙ ap₂ (λ n (t : List ℕ). clear_links (n / state_words) t (at / 4 * 4)) l q
            ∙ ap (λ w. clear_links (core_count s) (own_state vectors s core e) (w * 4)) t.1
            ∙ after_store t.0;
        done = p.done;
      }

-- ---- on a core's own words: own is those words, own' what is left of them, and s₁ the states with them

module _ (s : List ℕ) (core : ℕ) (h : core * state_words + state_words ≤ length s) {own own' s₁ : List ℕ} (o : own ≡ own_words s core) (w : s₁ ≡ with_own_words s core own') where
  module _ (board : Board) (mem : List ℕ) (entry : ℕ) (f : entry < 2 ^ 64) {mem' : List ℕ} {r : Done} (p : Performed board.vectors mem own (meaning board mem (entry / 2 ^ 56) (entry_inputs own core entry)) mem' own' r) where
    read_as : entry_inputs own core entry ≡ inputs s core (fields_of entry)
    unfolding entry_inputs
    read_as = ap (λ (own : List ℕ). entry_inputs own core entry) o ∙ own_inputs_at s core h (fields_of entry) (fields_registers entry)

    performs_as : meaning board mem (entry / 2 ^ 56) (entry_inputs own core entry) ≡ effect_of board mem s core entry
    performs_as =
        let k : entry / 2 ^ 56 ≡ field entry 56 8 = omega (arith, f) in
        ap₂ (λ (k : ℕ) (x : Inputs). meaning board mem k x) k read_as

    performed_here : Performed board.vectors mem own (effect_of board mem s core entry) mem' own' r
    performed_here = performed_as performs_as p

    committed_here : s₁ ≡ own_state board.vectors s core (effect_of board mem s core entry)
    unfolding inputs
    committed_here =
        let sound = meaning_sound board mem (inputs s core (fields_of entry)) (fields_registers entry).d (field entry 56 8) in
        w ∙ own_committed s core h board.vectors (effect_of board mem s core entry) sound.place_lt (performed_here.left ∙ ap (λ (own : List ℕ). own_state board.vectors own 0 (effect_of board mem s core entry)) o)

    -- an entry, with every link
    pub kept_here : r.stored ≡ None → Executed board.vectors mem s core (effect_of board mem s core entry) mem' s₁ r
    kept_here = executed_kept s core performed_here committed_here

    pub stored_here : {at : ℕ} → r.stored ≡ Some at → {s' : List ℕ} → s' ≡ clear_links (core_count s₁) s₁ (at / 4 * 4)
        → Executed board.vectors mem s core (effect_of board mem s core entry) mem' s' r
    stored_here = executed_stored s core performed_here committed_here

  -- an exception in an instruction's place, whatever goes to EEAR
  pub raised_anywhere : (cause : Cause) (eear : ℕ) {vectors : List ℕ} {r : Outcome}
      → Owned vectors own (faults (inputs own 0 no_fields) cause eear) own' r
      → (mem : List ℕ) → Executed vectors mem s core (faults (inputs s core no_fields) cause eear) mem s₁ (tells r no_store)
  unfolding inputs raises restart
  raised_anywhere cause eear {vectors} {r} p =
      let e' : Effect = faults (inputs s core no_fields) cause eear in
      let n : Registers no_fields = record { d = omega arith; a = omega arith; b = omega arith } in
      let x = ap (λ (own : List ℕ). own_inputs own core no_fields) o ∙ own_inputs_at s core h no_fields n in
      let q : Owned vectors own (faults (own_inputs own core no_fields) cause eear) own' r = p in
      let p = owned_as (ap (λ (x : Inputs). faults x cause eear) x) q in
      λ mem. executed_kept s core (kept p refl mem) (w ∙ own_committed s core h vectors e' (omega arith) (p.left ∙ ap (λ (own : List ℕ). own_state vectors own 0 e') o)) refl

  -- the same with the word at a place
  pub raised_here : (cause : Cause) (place : ℕ) → place < state_words → {vectors : List ℕ} {r : Outcome}
      → Owned vectors own (faults (inputs own 0 no_fields) cause (word_at own 0 place)) own' r
      → (mem : List ℕ) → Executed vectors mem s core (faults (inputs s core no_fields) cause (word_at s core place)) mem s₁ (tells r no_store)
  raised_here cause place l {vectors} {r} p =
      let v = ap (λ (i : ℕ). get_or own i 0) (zero-add place) ∙ ap (λ (own : List ℕ). get_or own place 0) o ∙ own_word_at s core h place l in
      raised_anywhere cause (word_at s core place) (owned_as (ap (λ (eear : ℕ). faults (inputs own 0 no_fields) cause eear) v) p)

-- ---- on the words of one state that a longer list begins with

module _ (own : List ℕ) (h : state_words ≤ length own) (board : Board) (mem : List ℕ) (core kind entry : ℕ) where
  first_effect : meaning board mem kind (entry_inputs (own_words own 0) core entry) ≡ meaning board mem kind (entry_inputs own core entry)
  unfolding entry_inputs
  first_effect = ap (λ (x : Inputs). meaning board mem kind x) (first_inputs own h core (fields_of entry) (fields_registers entry))

  first_committed : {t : List ℕ} → t ≡ own_state board.vectors (own_words own 0) 0 (meaning board mem kind (entry_inputs own core entry))
      → with_own_words own 0 t ≡ own_state board.vectors own 0 (meaning board mem kind (entry_inputs own core entry))
  unfolding entry_inputs
  first_committed p =
      let sound = meaning_sound board mem (entry_inputs own core entry) (fields_registers entry).d kind in
      own_committed own 0 h board.vectors (meaning board mem kind (entry_inputs own core entry)) sound.place_lt p

  -- what is performed on them is performed on the list
  pub performed_whole : {first t own' mem' : List ℕ} {r : Done} → first ≡ own_words own 0 → own' ≡ with_own_words own 0 t
      → Performs board mem first core kind entry mem' t r → Performs board mem own core kind entry mem' own' r
  performed_whole {t = t} {mem' = mem'} {r = r} o w p =
      let q = performed_as first_effect (subst (λ (first : List ℕ). Performs board mem first core kind entry mem' t r) o p) in
      record { memory = q.memory; left = w ∙ first_committed q.left; done = q.done }

  abbrev first_left : List ℕ
  first_left = own_state board.vectors (own_words own 0) 0 (meaning board mem kind (entry_inputs own core entry))

  -- and what is performed on the list is performed on them
  module _ {own' mem' : List ℕ} {r : Done} (p : Performs board mem own core kind entry mem' own' r) where
    performed_first : Performs board mem (own_words own 0) core kind entry mem' first_left r
    performed_first = performed_as (sym first_effect) (record { memory = p.memory; left = refl; done = p.done })

    whole_left : own' ≡ with_own_words own 0 first_left
    whole_left = p.left ∙ sym (first_committed refl)

-- an entry performed on every word from the core's on
module _ (s : List ℕ) (core : ℕ) (h : core * state_words + state_words ≤ length s) (board : Board) (mem : List ℕ) (entry : ℕ) (f : entry < 2 ^ 64) where
  from_core : state_words ≤ length (drop (core * state_words) s)
  from_core = simp length-drop (omega arith)

  -- own is those words, own' what is left of them, and s₁ the states with them
  module _ {own own' s₁ mem' : List ℕ} {r : Done} (o : own ≡ drop (core * state_words) s) (w : s₁ ≡ take (core * state_words) s ++ own') (q : Performs board mem own core (entry / 2 ^ 56) entry mem' own' r) where
    p : Performs board mem (drop (core * state_words) s) core (entry / 2 ^ 56) entry mem' own' r
    p = subst (λ (own : List ℕ). Performs board mem own core (entry / 2 ^ 56) entry mem' own' r) o q

    left_from : s₁ ≡ with_own_words s core (first_left (drop (core * state_words) s) from_core board mem core (entry / 2 ^ 56) entry)
    left_from = w ∙ ap (λ (t : List ℕ). take (core * state_words) s ++ t) (whole_left (drop (core * state_words) s) from_core board mem core (entry / 2 ^ 56) entry p)

    first_from : Performs board mem (own_words s core) core (entry / 2 ^ 56) entry mem' (first_left (drop (core * state_words) s) from_core board mem core (entry / 2 ^ 56) entry) r
    first_from = performed_first (drop (core * state_words) s) from_core board mem core (entry / 2 ^ 56) entry p

    pub kept_from : r.stored ≡ None → Executes board mem s core entry mem' s₁ r
    kept_from = kept_here s core h refl left_from board mem entry f first_from

    pub stored_from : {at : ℕ} → r.stored ≡ Some at → {s' : List ℕ} → s' ≡ clear_links (core_count s₁) s₁ (at / 4 * 4) → Executes board mem s core entry mem' s' r
    stored_from = stored_here s core h refl left_from board mem entry f first_from
