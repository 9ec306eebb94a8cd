-- Every run, refused or not, leaves each byte below the limit as it was: document 02, note 5, of the read-only start of memory. Assumes nothing.
use mathlib.Core.List.{List}
use mathlib.Core.Path.{◌≡◌, refl, ap, ◌∙◌}
use Prim.Native.Nat.{ℕ, ◌<◌}
use lib.Dec.{eqb}
use lib.ListN.{get_or}
use Rattle.bits.proofs.Cases.{if_both}
use Rattle.refusal.specs.Lent.{Lent, Left, board_of}
use Rattle.refusal.specs.Refusal.{plain_refusal, fast_refusal}
use Rattle.steps.specs.Plain.{Plain, scheduled_by}
use Rattle.linked.specs.Run.{start, plain_run}
use Rattle.linked.proofs.Agree.{from_keeps}
use Rattle.engine.specs.Answer.{Answer, unless_refused, PlainAnswer, FastAnswer}

module _ (l : Lent) (x : Left) (r : Answer) (j : ℕ) (h : j < l.limit) where
  kept : (refusal : ℕ) → get_or (unless_refused refusal (plain_run l) (start l)).memory j 0 ≡ get_or l.memory j 0
  unfolding plain_run
  kept refusal =
      if_both (λ (p : Plain). get_or p.memory j 0 ≡ get_or l.memory j 0) (eqb refusal 0) (from_keeps (board_of l) j h (scheduled_by l) (start l)) refl

  pub plain_keeps : PlainAnswer l x r → get_or x.memory j 0 ≡ get_or l.memory j 0
  plain_keeps a = ap (λ (p : Plain). get_or p.memory j 0) a.left ∙ kept (plain_refusal l)

  pub fast_keeps : (cache cache' : List ℕ) → FastAnswer l cache x cache' r → get_or x.memory j 0 ≡ get_or l.memory j 0
  fast_keeps cache cache' a = ap (λ (p : Plain). get_or p.memory j 0) a.left ∙ kept (fast_refusal l cache)
