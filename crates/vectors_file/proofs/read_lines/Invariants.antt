-- The invariant: the lines not read yet, with the addresses stored before them, come to what the file says.
use Prim.Native.Nat.{◌+◌}
use mathlib.Core.Path.{◌≡◌}
use mathlib.Core.List.{◌++◌}
use lib.ListN.{length, take, drop}
use Rattle.card.specs.Inner.{left}
use Rattle.isa.specs.Vectors.{vector_count}
use Rattle.vectors_file.specs.File.{keys, address_lines, content}
use Rattle.vectors_file.proofs.Lines.{close}
use Rattle.vectors_file.proofs.read_lines.Given as goal

abbrev pub invariant-loop-i : goal.invariant-loop-i
invariant-loop-i l = record {
  same : content (left l.file 0 1) ≡ address_lines (drop l.i keys) (left l.file l.at (l.i + 1)) (λ vs. close (take l.i l.list ++ vs));
  seven : length l.list ≡ vector_count;
}
