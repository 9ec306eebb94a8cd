use mathlib.Core.Path.{◌≡◌}
use mathlib.Core.List.{map}
use lib.ListN.{length, take, drop}
use Rattle.text.specs.Digits.{digit}
use lib.Seq.{sets}
use Rattle.job.specs.Job.{entries}
use Rattle.job.proofs.schedule.Given as goal

abbrev pub invariant-loop-i : goal.invariant-loop-i
invariant-loop-i l = record {
  same : l.out ≡ sets l.initial.out 0 (entries (map digit (take l.job.digits (drop l.job.schedule l.card))) l.i);
  whole : length l.out ≡ length l.initial.out;
}
