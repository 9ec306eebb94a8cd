-- The invariant: the w lines not read yet come to what all of them do, and no more are read than the card has bytes.
use Prim.Native.Nat.{◌+◌, ◌-◌, ◌≤◌}
use mathlib.Core.Path.{◌≡◌}
use Rattle.card.specs.Card.{word_lines, max_card}
use Rattle.card.specs.Answer.{header_lines}
use Rattle.card.specs.Inner.{left, close}
use Rattle.card.proofs.word_lines.Given as goal

abbrev pub invariant-loop-i : goal.invariant-loop-i
invariant-loop-i l = record {
  same : word_lines (l.job.words - l.i) (left l.card l.at (header_lines + 1 + l.i)) (λ ws. close l.job) ≡ word_lines l.job.words (left l.card l.job.image (header_lines + 1)) (λ ws. close l.job);
  counted : l.i ≤ l.at;
  few : l.i ≤ max_card;
}
