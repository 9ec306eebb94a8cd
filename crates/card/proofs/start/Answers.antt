use mathlib.Core.Path.{◌≡◌}
use borrow.Author.Tests.{le-leb}
use Rattle.card.specs.Card.{max_card}
use Rattle.card.specs.Inner.{no_job}
use Rattle.card.proofs.start.Goals as goal

pub returns : goal.returns
returns c =
    let e = c.default.ensures in
    let f = e.1.1.1.1 in
    let j : c.default.result ≡ no_job =
    λ i. record { cores = e.0 i; memory = e.1.0 i; entry = e.1.1.0 i; sr = e.1.1.1.0 i; steps = f.0 i; schedule = f.1.0 i; digits = f.1.1.0 i; words = f.1.1.1.0 i; image = f.1.1.1.1 i } in
    simp (le-leb _ max_card c.if-card-gt-MAX_CARD.false, j)
