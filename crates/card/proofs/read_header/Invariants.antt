-- The invariant: the lines not read yet, with those stored before them, come to what the header says.
use Prim.Native.Nat.{◌≤◌}
use mathlib.Core.Path.{◌≡◌}
use lib.ListN.{length, drop, get_or}
use Rattle.card.specs.Answer.{before_schedule}
use Rattle.card.specs.Inner.{unread, header, rows_from, header_from}
use Rattle.card.proofs.read_header.Given as goal

abbrev pub invariant-loop-i : goal.invariant-loop-i
invariant-loop-i l = record {
  same : header_from l.card l.from ≡ rows_from l.card (drop l.i header) l.at l.i l.lines;
  inside : (get_or l.lines before_schedule unread).at ≤ length l.card;
}
