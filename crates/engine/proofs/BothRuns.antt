-- Both runs side by side, on equal memory, states, schedule and levels, at one limit: demand 3 of what the functions promise. Assumes nothing.
use mathlib.Core.List.{List}
use mathlib.Core.Path.{◌≡◌, sym, ap, ◌∙◌}
use Prim.Native.Nat.{ℕ}
use borrow.Author.Tests.{eq-eqb}
use Rattle.refusal.specs.Lent.{Lent, Left}
use Rattle.refusal.specs.Refusal.{fast_refusal}
use Rattle.refusal.proofs.Passes.{fast_then_plain}
use Rattle.steps.specs.Plain.{Plain, plain_of}
use Rattle.engine.specs.Answer.{Answer, number, counts_of, PlainAnswer, FastAnswer}

-- the answer p of a plain run, which leaves x, and f of a fast run, which leaves y: "both end with the same memory, the same sheets, the same
-- count of instructions executed and the same count of exceptions raised"
pub record Alike (x : Left) (p : Answer) (y : Left) (f : Answer) : Type 0 where
  pub plain_accepts : number p ≡ 0
  pub same_memory : y.memory ≡ x.memory
  pub same_states : y.states ≡ x.states
  pub same_executed : (counts_of f).executed ≡ (counts_of p).executed
  pub same_raised : (counts_of f).raised ≡ (counts_of p).raised

-- "For every memory, sheets, schedule and table that the engine accepts"
pub both_alike : (l : Lent) (cache cache' : List ℕ) (x y : Left) (p f : Answer) → PlainAnswer l x p → FastAnswer l cache y cache' f
    → fast_refusal l cache ≡ 0 → Alike x p y f
both_alike l cache cache' x y p f a b z =
    let accepts = fast_then_plain l cache z in
    let same : plain_of y (counts_of f) ≡ plain_of x (counts_of p) = rw (eq-eqb _ _ z) at b.left ∙ sym (rw (eq-eqb _ _ accepts) at a.left) in
    record {
      plain_accepts = a.refusal ∙ accepts;
      same_memory = ap (λ (q : Plain). q.memory) same;
      same_states = ap (λ (q : Plain). q.states) same;
      same_executed = ap (λ (q : Plain). q.executed) same;
      same_raised = ap (λ (q : Plain). q.raised) same;
    }
