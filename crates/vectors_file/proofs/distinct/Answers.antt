use mathlib.Core.Path.{◌≡◌, ◌∙◌, sym}
use native.Mathlib.Omega.{arith}
use lib.ListN.{length}
use Rattle.isa.specs.Vectors.{vector_count}
use Rattle.vector_list.proofs.Laws.{repeats_at, repeats_nowhere}
use Rattle.vectors_file.specs.File.{distinct}
use Rattle.vectors_file.proofs.distinct.Goals as goal

pub returns-in-Some : goal.returns-in-Some
unfolding distinct
returns-in-Some c =
    let seven : length c.args.list ≡ vector_count = omega arith in
    let r = repeats_at c.args.list vector_count seven (sym c.first_repeat.ensures.0 ∙ c.in-Some.is) in
    simp (c.at.ensures.0, c.at.ensures.1, r.0, r.1)

pub returns-in-None : goal.returns-in-None
unfolding distinct
returns-in-None c =
    let seven : length c.args.list ≡ vector_count = omega arith in
    simp (repeats_nowhere c.args.list vector_count seven (sym c.first_repeat.ensures.0 ∙ c.in-None.is))
