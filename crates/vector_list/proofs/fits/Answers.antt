use Rattle.std.proofs.Common.{◌∙◌, ap, sym, is_some}
use lib.Dec.{eqb→eq}
use Rattle.vector_list.proofs.Laws.{fits_if_new}
use Rattle.vector_list.proofs.fits.Goals.{then-list-eq-COUNT, else-list-eq-COUNT}
use Rattle.vector_list.proofs.fits.Goals as goal

pub returns-then-are_vectors : goal.returns-then-are_vectors
returns-then-are_vectors c =
    let list = c.args.list.now in
    elim c.if-list-eq-COUNT.branch [
      | then-list-eq-COUNT w ↦
          fits_if_new list w.if-list-eq-COUNT.true (sym w.are_vectors.ensures ∙ sym w.value-is ∙ c.if-are_vectors.true) _
          (ap is_some (sym c.first_repeat.ensures.0) ∙ c.is_none.ensures)
      | else-list-eq-COUNT w ↦ absurd (w.if-list-eq-COUNT.false (eqb→eq _ _ (rw (sym w.value-is ∙ c.if-are_vectors.true) tt)))
    ]
