-- A store or l.swa below the limit: document 02, note 5, "Any store or l.swa reaching below it raises bus error after alignment and before the link test, writes no
-- memory and clears no other core's link." Assumes nothing.
use mathlib.Core.List.{List}
use mathlib.Core.Option.{some}
use mathlib.Core.Path.{◌≡◌, refl, sym, ◌∙◌}
use Prim.Native.Nat.{ℕ, ◌%◌, ◌<◌}
use native.Mathlib.Omega.{arith}
use lib.ListN.{length}
use Rattle.isa.specs.declared.vectors.Cause.{Cause}
use Rattle.isa.specs.declared.vectors.Cause.TheVariants.{Bus, Alignment}
use Rattle.memory.specs.Memory.{access}
use Rattle.memory.proofs.Laws.{misaligned, below_limit}
use Rattle.effect.specs.State.{state_words}
use Rattle.effect.specs.Effect.{raises, faults}
use Rattle.effect.specs.declared.types.Inputs.{Inputs}
use Rattle.effect.specs.Board.{Board}
use Rattle.effect.specs.declared.types.Effect.{Effect}
use Rattle.action.specs.Operations.{effective_address, reaches, store, store_conditional}
use Rattle.commit.specs.Commit.{word_at, memory_after, states_after}
use Rattle.semantics.specs.Meaning.{stores, meaning}
use Rattle.semantics.proofs.Groups.{is_store}
use Rattle.lawful.proofs.Commit.{own_other}
use Rattle.lawful.proofs.Instruction.{no_store_kept}

-- the kinds that store, and how many bytes
pub data StoreKind : ℕ → ℕ → Type 0 where
  swa : StoreKind 44 4
  sw : StoreKind 45 4
  sb : StoreKind 46 1
  sh : StoreKind 47 2

module _ (board : Board) (mem : List ℕ) (x : Inputs) where
  -- an access that its test refuses raises at its address, whatever it would do
  refused : (n : ℕ) (e : Effect) {cause : Cause} → access n board.limit (length mem) (effective_address x) ≡ some cause
      → reaches x n board.limit (length mem) e ≡ faults x cause (effective_address x)
  refused n e h = rw h

  kinds_refused : {k n : ℕ} → StoreKind k n → {cause : Cause} → access n board.limit (length mem) (effective_address x) ≡ some cause
      → meaning board mem k x ≡ faults x cause (effective_address x)
  unfolding stores store store_conditional
  kinds_refused swa h = sym (is_store board mem 44 x (omega arith, omega arith)) ∙ refused 4 _ h
  kinds_refused sw h = sym (is_store board mem 45 x (omega arith, omega arith)) ∙ refused 4 _ h
  kinds_refused sb h = sym (is_store board mem 46 x (omega arith, omega arith)) ∙ refused 1 _ h
  kinds_refused sh h = sym (is_store board mem 47 x (omega arith, omega arith)) ∙ refused 2 _ h

  -- alignment first, at every limit; then the limit, whatever the link and memory's length are
  pub stores_misaligned : {k n : ℕ} → StoreKind k n → 0 < effective_address x % n → meaning board mem k x ≡ faults x Alignment (effective_address x)
  stores_misaligned {k} {n} kind h = kinds_refused kind (misaligned n board.limit (length mem) (effective_address x) h)

  pub stores_below : {k n : ℕ} → StoreKind k n → effective_address x % n ≡ 0 → effective_address x < board.limit → meaning board mem k x ≡ faults x Bus (effective_address x)
  stores_below {k} {n} kind h b = kinds_refused kind (below_limit n board.limit (length mem) (effective_address x) h b)

-- such an exception leaves memory and every other core's state, its link included
module _ (x : Inputs) (cause : Cause) (eear : ℕ) where
  pub fault_memory : (mem : List ℕ) → memory_after mem (faults x cause eear) ≡ mem
  unfolding raises
  fault_memory mem = no_store_kept mem (faults x cause eear) refl

  pub fault_others : (vectors s : List ℕ) (core c j : ℕ) → (c ≡ core → ⊥) → j < state_words → word_at (states_after vectors s core (faults x cause eear)) c j ≡ word_at s c j
  unfolding states_after raises
  fault_others vectors s core c j n h = own_other vectors s core (faults x cause eear) c j (omega arith) n h
