-- An instruction that raises stores nothing and is its core's alone; l.rfe, l.jr and l.jalr outside a slot: document 02, note 8. Assumes nothing.
use mathlib.Core.Bool.{Bool, true, false, ◌&&◌, ◌||◌, not}
use mathlib.Core.List.{List, [], ◌∷◌}
use mathlib.Core.Path.{◌≡◌, refl, sym, ap, ◌∙◌}
use Prim.Native.Nat.{ℕ, ◌+◌, ◌*◌, ◌%◌, ◌<◌, ◌≤◌}
use native.Mathlib.Omega.{arith}
use lib.Dec.{T, eqb, ltb}
use lib.ListN.{length, length-set}
use borrow.Author.Tests.{ne_eqb, le-ltb, eqb-true, not-true}
use Rattle.std.specs.Prelude.{if◌then◌else◌}
use Rattle.bits.proofs.Tests.{of_T, T_of}
use Rattle.bits.proofs.Cases.{if_law, if_both, by_equality}
use Rattle.arith.specs.Bit.{is_set}
use Rattle.arith.specs.Status.{OVE}
use Rattle.memory.specs.Memory.{bytes, no_limit}
use Rattle.effect.specs.State.{state_words, pc_at, delay_at, target_at, sr_at, link_at, link_address_at, mode_at}
use Rattle.effect.specs.Effect.{completed, no_store, in_slot, advances, raises, jumping, returning}
use Rattle.effect.specs.Board.{Board}
use Rattle.effect.specs.declared.types.Inputs.{Inputs}
use Rattle.effect.specs.declared.types.Flow.{Flow}
use Rattle.effect.specs.declared.types.Effect.{Effect}
use Rattle.action.specs.Operations.{sets_flag, nop, illegal, outside_slot, syscall, result_or_raises, divides, jump, after_slot, branch, register_jump, returns, load, load_linked, store, store_conditional, touch, sets_special_register}
use Rattle.commit.specs.Commit.{word_at, put, put_value, put_flow, put_status, put_accumulated, put_exception, raised_by, own_state, writes_memory, states_after}
use Rattle.semantics.specs.Meaning.{control, meaning}
use Rattle.semantics.proofs.Groups.{is_control}
use Rattle.lawful.proofs.Reaches.{reaches_law}
use Rattle.lawful.proofs.Table.{Lines, meaning_has}
use Rattle.lawful.proofs.Commit.{seen, puts_seen, own_other}
use Rattle.lawful.proofs.Links.{link_of}

-- ---- an instruction that raises stores nothing

-- it completes, or it stores nothing
data Apart : Effect → Type 0 where
  apart : {e : Effect} → T (eqb (raised_by e.outcome) 0 || not (writes_memory e)) → Apart e

of_apart : {e : Effect} → Apart e → T (eqb (raised_by e.outcome) 0 || not (writes_memory e))
of_apart (apart t) = t

apart_lines : (board : Board) (mem : List ℕ) (x : Inputs) → Lines Apart Unit board mem x
unfolding advances raises sets_flag nop syscall result_or_raises divides jump branch register_jump returns load load_linked store store_conditional touch sets_special_register
apart_lines board mem x =
    record {
      of_writes = λ v. apart tt;
      of_nothing = apart tt;
      of_flag = λ t. apart tt;
      of_nop = if_both Apart (eqb x.immediate 1) (apart tt) (apart tt);
      of_illegal = apart tt;
      of_trap = apart tt;
      of_syscall = if_both Apart (in_slot x) (apart tt) (apart tt);
      of_result = λ f. if_both Apart (is_set OVE x.sr && f.overflow) (apart tt) (apart tt);
      of_divides = λ q.
          if_both Apart (eqb x.b 0) (if_both Apart (is_set OVE x.sr) (apart tt) (apart tt)) (apart tt);
      of_accumulates = λ m. apart tt;
      of_reads_accumulator = apart tt;
      of_jump = λ _ place v h. if_both Apart (in_slot x) (apart tt) (apart tt);
      of_branch = λ _ taken. if_both Apart (in_slot x) (apart tt) (apart tt);
      of_register_jump = λ place v h.
          if_both Apart (in_slot x) (apart tt) (if_both Apart (ltb 0 (x.b % 4)) (apart tt) (apart tt));
      of_return = if_both Apart (in_slot x) (apart tt) (apart tt);
      of_load = λ n sign. reaches_law Apart x n no_limit (length mem) (λ g. apart tt) (λ cause eear. apart tt);
      of_load_linked = reaches_law Apart x 4 no_limit (length mem) (λ g. apart tt) (λ cause eear. apart tt);
      of_store = λ w. reaches_law Apart x (bytes w) board.limit (length mem) (λ g. apart tt) (λ cause eear. apart tt);
      of_store_conditional = reaches_law Apart x 4 board.limit (length mem) (λ g. apart tt) (λ cause eear. apart tt);
      of_touch = reaches_law Apart x 1 no_limit (length mem) (λ g. apart tt) (λ cause eear. apart tt);
      of_special = λ n v.
          if_both Apart (eqb n 17) (apart tt) (
          if_both Apart (eqb n 32) (apart tt) (
          if_both Apart (eqb n 48) (apart tt) (
          if_both Apart (eqb n 64) (apart tt) (
          if_both Apart (eqb n 0x2801) (apart tt) (
          if_both Apart (eqb n 0x2802) (apart tt) (
          if_both Apart (eqb n 0x4800) (apart tt) (
          if_both Apart (eqb n 0x4802) (apart tt) (
          apart tt))))))));
    }

pub raised_stores_nothing : (board : Board) (mem : List ℕ) (x : Inputs) (k : ℕ) → eqb (raised_by (meaning board mem k x).outcome) 0 ≡ false
    → writes_memory (meaning board mem k x) ≡ false
raised_stores_nothing board mem x k h =
    not-true _ (of_T _ (rw h at (of_apart (meaning_has Apart Unit board mem x (apart_lines board mem x) k (λ _. tt)))))

-- one that stores nothing leaves every other core as it is, its link too
pub quiet_others : (vectors s : List ℕ) (core : ℕ) (e : Effect) (c j : ℕ) → writes_memory e ≡ false → e.place < state_words → (c ≡ core → ⊥) → j < state_words
    → word_at (states_after vectors s core e) c j ≡ word_at s c j
unfolding states_after
quiet_others vectors s core e c j q h n g = rw q (own_other vectors s core e c j h n g)

-- ---- l.rfe, l.jr and l.jalr

-- a kind of these
abbrev pub leaves : ℕ → Bool
leaves k = eqb k 13 || (eqb k 14 || eqb k 15)

leaving : (P : ℕ → Type 0) (k : ℕ) → leaves k ≡ true → P 13 → P 14 → P 15 → P k
leaving P k h a b c =
    by_equality k 13 (λ e. rw e a)
    (λ l. by_equality k 14 (λ e. rw e b) (λ m. by_equality k 15 (λ e. rw e c) (λ n. absurd (T_of false (rw (ne_eqb k 13 l, ne_eqb k 14 m, ne_eqb k 15 n) at h)))))

module _ (board : Board) (mem : List ℕ) (x : Inputs) where
  outside : (e : Effect) → in_slot x ≡ false → outside_slot x e ≡ e
  outside e h = rw h

  slotted : (e : Effect) → in_slot x ≡ true → outside_slot x e ≡ illegal x
  slotted e h = rw h

  -- outside a slot, to its address
  pub return_goes : in_slot x ≡ false → meaning board mem 13 x ≡ returning x
  unfolding control returns
  return_goes h = sym (is_control board mem 13 x (omega arith, omega arith)) ∙ outside _ h

  to_register : (place v : ℕ) → in_slot x ≡ false → x.b % 4 ≡ 0 → register_jump x place v ≡ jumping x place v x.b
  unfolding register_jump
  to_register place v h m = outside _ h ∙ rw (le-ltb 0 (x.b % 4) (omega arith))

  pub register_jump_goes : in_slot x ≡ false → x.b % 4 ≡ 0 → meaning board mem 14 x ≡ jumping x 0 0 x.b
  unfolding control
  register_jump_goes h m = sym (is_control board mem 14 x (omega arith, omega arith)) ∙ to_register 0 0 h m

  pub register_call_goes : in_slot x ≡ false → x.b % 4 ≡ 0 → meaning board mem 15 x ≡ jumping x 9 (after_slot x) x.b
  unfolding control
  register_call_goes h m = sym (is_control board mem 15 x (omega arith, omega arith)) ∙ to_register 9 (after_slot x) h m

  -- in a slot none completes
  pub in_slot_illegal : (k : ℕ) → leaves k ≡ true → in_slot x ≡ true → meaning board mem k x ≡ illegal x
  unfolding control returns register_jump
  in_slot_illegal k l h =
      leaving (λ (k : ℕ). meaning board mem k x ≡ illegal x) k l (sym (is_control board mem 13 x (omega arith, omega arith)) ∙ slotted _ h)
      (sym (is_control board mem 14 x (omega arith, omega arith)) ∙ slotted _ h) (sym (is_control board mem 15 x (omega arith, omega arith)) ∙ slotted _ h)

  pub completed_outside_slot : (k : ℕ) → leaves k ≡ true → eqb (raised_by (meaning board mem k x).outcome) 0 ≡ true → in_slot x ≡ false
  unfolding raises
  completed_outside_slot k l h = go (in_slot x) refl
    where
      go : (b : Bool) → in_slot x ≡ b → b ≡ false
      go true q = absurd (T_of false (rw (in_slot_illegal k l q) at h))
      go false q = refl

-- ---- an effect that keeps SR and the link, writes no accumulator and stores nothing, in its own core's state

-- the states t with v at the core's place; place 0 is none
abbrev with_value : List ℕ → ℕ → ℕ → ℕ → List ℕ
with_value t core place v = if eqb place 0 then t else put t core place v

module _ (t : List ℕ) (core place v : ℕ) where
  length_with : length (with_value t core place v) ≡ length t
  length_with = if_both (λ (u : List ℕ). length u ≡ length t) (eqb place 0) refl (simp length-set)

  -- what it does not write stays
  with_other : (j : ℕ) → core * state_words + j < length t → (place ≡ j → ⊥) → word_at (with_value t core place v) core j ≡ word_at t core j
  with_other j h n =
      if_both (λ (u : List ℕ). word_at u core j ≡ word_at t core j) (eqb place 0) refl (puts_seen ((place, v) ∷ []) t core j h ∙ rw (ne_eqb place j n))

-- a word stays as d if each word that is put there is d
abbrev Same : List (ℕ × ℕ) → ℕ → ℕ → Type 0
Same [] j d = Unit
Same (p ∷ l) j d = (p.0 ≡ j → p.1 ≡ d) × Same l j d

same_seen : (l : List (ℕ × ℕ)) (j d : ℕ) → Same l j d → seen l j d ≡ d
same_seen [] j d a = refl
same_seen (p ∷ l) j d a =
    ap (seen l j) (if_law (λ (w : ℕ). w ≡ d) (eqb p.0 j) (λ q. a.0 (eqb-true p.0 j q)) (λ _. refl)) ∙ same_seen l j d a.1

-- its words other than PC, delay, target and mode are those that the value's write leaves
pub passing_kept : (vectors t : List ℕ) (core : ℕ) (e : Effect) (place v : ℕ) (flow : Flow) (mode : ℕ)
    → e ≡ completed place v (word_at t core sr_at) flow (link_of t core) mode no_store → place < 32 → core * state_words + state_words ≤ length t
    → (j : ℕ) → j < state_words → (j ≡ pc_at → ⊥) → (j ≡ delay_at → ⊥) → (j ≡ target_at → ⊥) → (j ≡ mode_at → ⊥)
    → word_at (states_after vectors t core e) core j ≡ word_at (if eqb place 0 then t else put t core place v) core j
unfolding states_after own_state put_value put_flow put_status put_accumulated put_exception
passing_kept vectors t core e place v flow mode q h fits j i pc delay target own =
    let u = with_value t core place v in
    let n : length u ≡ length t = length_with t core place v in
    let l : List (ℕ × ℕ) =
    (pc_at, flow.pc) ∷ (delay_at, flow.delay) ∷ (target_at, flow.target) ∷ (sr_at, word_at t core sr_at) ∷ (link_at, word_at t core link_at)
    ∷ (link_address_at, word_at t core link_address_at) ∷ (mode_at, mode) ∷ [] in
    let sr = stays sr_at (omega arith) (omega arith) in
    let held = stays link_at (omega arith) (omega arith) in
    let address = stays link_address_at (omega arith) (omega arith) in
    ap (λ (f : Effect). word_at (states_after vectors t core f) core j) q ∙ puts_seen l u core j (omega arith)
    ∙ same_seen l j (word_at u core j) (gone pc, (gone delay, (gone target, (sr, (held, (address, (gone own, tt)))))))
  where
    gone : {m w d : ℕ} → (j ≡ m → ⊥) → m ≡ j → w ≡ d
    gone n z = absurd (n (sym z))

    stays : (m : ℕ) → 32 ≤ m → m < state_words → m ≡ j → word_at t core m ≡ word_at (with_value t core place v) core j
    stays m a b z = sym (with_other t core place v m (omega arith) (λ y. omega arith)) ∙ ap (word_at (with_value t core place v) core) z
