use mathlib.Core.Path.{◌≡◌}
use lib.ListN.{length}
use lib.Seq.{sets}
use Rattle.print.specs.Digits.{digits}
use Rattle.print.proofs.Writer.put_digits.Given as goal

abbrev pub invariant-loop-i : goal.invariant-loop-i
invariant-loop-i l = record {
  same_reference : l.self.out.ghost_name ≡ l.initial.self.out.ghost_name;
  same_place : l.self.at ≡ l.initial.self.at;
  kept : length l.self.out.now ≡ length l.initial.self.out.now;
  stored : sets l.self.out.now l.self.at (digits l.base l.i l.rest) ≡ sets l.initial.self.out.now l.initial.self.at (digits l.base l.k l.n);
}
