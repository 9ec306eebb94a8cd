-- The states after an effect. Assumes nothing.
use mathlib.Core.Bool.{Bool, true, false, ◌&&◌}
use mathlib.Core.List.{List}
use mathlib.Core.Path.{◌≡◌, ap, ap₂, ◌∙◌}
use Prim.Native.Nat.{ℕ, ◌*◌, ◌<◌, ◌≤◌}
use native.Mathlib.Nat.{le_refl}
use native.Mathlib.Omega.{arith}
use lib.ListN.{length}
use Rattle.std.specs.Prelude.{Err, if◌then◌else◌}
use Rattle.bits.proofs.Cases.{if_both, by_equality}
use Rattle.isa.specs.Vectors.{vector}
use Rattle.effect.specs.State.{state_words, pc_at, link_at, link_address_at, picsr_at}
use Rattle.effect.specs.Effect.{no_link}
use Rattle.effect.specs.declared.types.Link.{Link}
use Rattle.effect.specs.declared.types.Effect.{Effect}
use Rattle.effect.specs.declared.types.Exception.{Exception}
use Rattle.effect.specs.Board.{Board}
use Rattle.commit.specs.Commit.{word_at, core_count, own_state, clear_links, writes_memory, touched, states_after}
use Rattle.lawful.specs.Inner.{LawfulWord, to_register, to_epcr, to_eear, to_esr, to_machi, to_maclo, to_picmr, to_picsr, LawfulVectors, Lawful}
use Rattle.lawful.specs.Accepted.{AllAccepted}
use Rattle.lawful.proofs.Commit.{length_own, own_other, own_vector, own_accepted, own_picsr, lawful_same}
use Rattle.lawful.proofs.Links.{link_of, linked_to, length_clears, clears_rest, clears_link, clears_accepted}

-- a lawful effect writes inside its core's state
pub lawful_place : {picsr place v : ℕ} → LawfulWord picsr place v → place < state_words
lawful_place (to_register h) = omega arith
lawful_place (to_epcr m) = omega arith
lawful_place to_eear = omega arith
lawful_place (to_esr m) = omega arith
lawful_place to_machi = omega arith
lawful_place to_maclo = omega arith
lawful_place (to_picmr m) = omega arith
lawful_place (to_picsr m) = omega arith

module _ (vectors s : List ℕ) (core : ℕ) (e : Effect) where
  pub length_states : length (states_after vectors s core e) ≡ length s
  unfolding states_after
  length_states =
      if_both (λ (t : List ℕ). length t ≡ length s) (writes_memory e)
      (length_clears (own_state vectors s core e) (touched e * 4) (core_count s) ∙ length_own vectors s core e) (length_own vectors s core e)

  -- another core's state changes in nothing but its link
  pub other_states : (c j : ℕ) → e.place < state_words → (c ≡ core → ⊥) → j < state_words → (j ≡ link_at → ⊥) → (j ≡ link_address_at → ⊥)
      → word_at (states_after vectors s core e) c j ≡ word_at s c j
  unfolding states_after
  other_states c j h n i p q =
      let t = own_state vectors s core e in
      let l : length t ≡ length s = length_own vectors s core e in
      let o : word_at t c j ≡ word_at s c j = own_other vectors s core e c j h n i in
      if_both (λ (u : List ℕ). word_at u c j ≡ word_at s c j) (writes_memory e) (clears_rest t (touched e * 4) (core_count s) c j (omega arith) i p q ∙ o) o

  -- which is cleared by a store to its word, and else stays
  pub other_link : (c : ℕ) → e.place < state_words → (c ≡ core → ⊥) → c < core_count s
      → link_of (states_after vectors s core e) c ≡ (if writes_memory e && linked_to (link_of s c) (touched e * 4) then no_link else link_of s c)
  unfolding states_after
  other_link c h n i =
      let t = own_state vectors s core e in
      let l : length t ≡ length s = length_own vectors s core e in
      let o : link_of t c ≡ link_of s c =
      ap₂ (λ (u v : ℕ). record { held = u; address = v }) (own_other vectors s core e c link_at h n (omega arith))
      (own_other vectors s core e c link_address_at h n (omega arith)) in
      go o (clears_link t (touched e * 4) (core_count s) c (omega arith) i) (writes_memory e)
    where
      go : link_of (own_state vectors s core e) c ≡ link_of s c
          → link_of (clear_links (core_count s) (own_state vectors s core e) (touched e * 4)) c
          ≡ (if linked_to (link_of (own_state vectors s core e) c) (touched e * 4) then no_link else link_of (own_state vectors s core e) c)
          → (b : Bool)
          → link_of (if b then clear_links (core_count s) (own_state vectors s core e) (touched e * 4) else own_state vectors s core e) c
          ≡ (if b && linked_to (link_of s c) (touched e * 4) then no_link else link_of s c)
      go o k true = k ∙ ap (λ (m : Link). if linked_to m (touched e * 4) then no_link else m) o
      go o k false = o

  -- an exception's core goes on at the vector that the list has for its cause, whatever the instruction wrote
  pub states_vector : (x : Exception) → core < core_count s → e.outcome ≡ Err x → word_at (states_after vectors s core e) core pc_at ≡ vector vectors x.cause
  unfolding states_after
  states_vector x h r =
      let t = own_state vectors s core e in
      let l : length t ≡ length s = length_own vectors s core e in
      let o : word_at t core pc_at ≡ vector vectors x.cause = own_vector vectors s core e x (omega arith) r in
      if_both (λ (u : List ℕ). word_at u core pc_at ≡ vector vectors x.cause) (writes_memory e)
      (clears_rest t (touched e * 4) (core_count s) core pc_at (omega arith) (omega arith) (λ z. omega arith) (λ z. omega arith) ∙ o) o

  pub states_accepted : LawfulVectors vectors → {board : Board} {picsr : ℕ} → Lawful picsr e → core < core_count s → AllAccepted board s → AllAccepted board (states_after vectors s core e)
  unfolding states_after
  states_accepted multiple {board} l h a =
      if_both (AllAccepted board) (writes_memory e) (clears_accepted (own_state vectors s core e) (touched e * 4) (core_count s) (omega (arith, length_own vectors s core e)) own) own
    where
      own : AllAccepted board (own_state vectors s core e)
      own c i =
          let n : length (own_state vectors s core e) ≡ length s = length_own vectors s core e in
          by_equality c core (λ q. rw q (own_accepted s core (omega arith) (a core h) vectors multiple e l))
          (λ q.
          lawful_same (word_at s c) (word_at (own_state vectors s core e) c) (λ j g _. own_other vectors s core e c j (lawful_place l.word_lawful) q g) (a c (omega arith)))

  -- no core's PICSR grows
  pub states_picsr : Lawful (word_at s core picsr_at) e → core < core_count s → (c : ℕ) → c < core_count s → word_at (states_after vectors s core e) c picsr_at ≤ word_at s c picsr_at
  unfolding states_after
  states_picsr l h c i =
      by_equality c core
      (λ q. rw q
      (if_both (λ (u : List ℕ). word_at u core picsr_at ≤ word_at s core picsr_at) (writes_memory e)
      (rw (clears_rest (own_state vectors s core e) (touched e * 4) (core_count s) core picsr_at few (omega arith) (λ z. omega arith) (λ z. omega arith)) own) own))
      (λ q. rw (other_states c picsr_at (lawful_place l.word_lawful) q (omega arith) (λ z. omega arith) (λ z. omega arith)) (le_refl _))
    where
      few : core_count s ≤ core_count (own_state vectors s core e)
      few = let n : length (own_state vectors s core e) ≡ length s = length_own vectors s core e in omega arith

      own : word_at (own_state vectors s core e) core picsr_at ≤ word_at s core picsr_at
      own = own_picsr s core (omega arith) vectors e l
