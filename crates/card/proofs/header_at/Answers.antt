use mathlib.Core.Path.{◌∙◌}
use borrow.Author.Tests.{eq-eqb, ne_eqb}
use Rattle.card.specs.Inner.{header_at}
use Rattle.card.proofs.header_at.Goals as goal

pub returns-then-p-ne1 : goal.returns-then-p-ne1
unfolding header_at
returns-then-p-ne1 c = simp (ne_eqb _ _ c.if-p-ne1.true)

pub returns : goal.returns
unfolding header_at
returns c = c.read_header.ensures ∙ simp (eq-eqb _ _ c.if-p-ne1.false)
