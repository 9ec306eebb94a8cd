use Prim.Native.Nat.{◌+◌, ◌-◌, ◌*◌, ◌≤◌}
use mathlib.Core.Path.{◌≡◌}
use lib.ListN.{length, drop}
use Rattle.text.specs.Lines.{lines}
use Rattle.card.specs.Answer.{words_from}
use Rattle.job.specs.Job.{filled}
use Rattle.job.proofs.fill.Given as goal

abbrev pub invariant-loop-i : goal.invariant-loop-i
invariant-loop-i l = record {
  same : filled l.image (4 * l.i) (words_from (l.n - l.i) (lines (drop l.at l.card))) ≡ filled l.initial.image 0 (words_from l.n (lines (drop l.from l.card)));
  room : 4 * l.i + 4 * length (words_from (l.n - l.i) (lines (drop l.at l.card))) ≤ length l.image;
  whole : length l.image ≡ length l.initial.image;
}
