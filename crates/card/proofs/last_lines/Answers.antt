use mathlib.Core.Path.{◌∙◌}
use borrow.Author.Tests.{eq-eqb, ne_eqb, le-leb, lt-leb}
use Rattle.card.specs.Card.{max_card}
use Rattle.card.specs.Inner.{last_lines}
use Rattle.card.proofs.last_lines.Goals as goal

pub returns-then-card-gt-MAX_CARD : goal.returns-then-card-gt-MAX_CARD
unfolding last_lines
returns-then-card-gt-MAX_CARD c = simp (c.at.ensures.0, c.at.ensures.1, lt-leb _ max_card c.if-card-gt-MAX_CARD.true)

pub returns-then-p-ne-WORD_LINES : goal.returns-then-p-ne-WORD_LINES
unfolding last_lines
returns-then-p-ne-WORD_LINES c = simp (c.at-then-p-ne-WORD_LINES.ensures.0, c.at-then-p-ne-WORD_LINES.ensures.1, le-leb _ max_card c.if-card-gt-MAX_CARD.false, ne_eqb _ _ c.if-p-ne-WORD_LINES.true)

pub returns : goal.returns
unfolding last_lines
returns c = c.word_lines.ensures ∙ simp (le-leb _ max_card c.if-card-gt-MAX_CARD.false, eq-eqb _ _ c.if-p-ne-WORD_LINES.false)
