use mathlib.Core.Path.{◌≡◌}
use lib.ListN.{length}
use lib.Seq.{sets}
use Rattle.job.specs.Job.{reset_states}
use Rattle.job.proofs.reset.Given as goal

abbrev pub invariant-loop-i : goal.invariant-loop-i
invariant-loop-i l = record {
  same : l.states ≡ sets l.initial.states 0 (reset_states l.entry l.sr l.i);
  whole : length l.states ≡ length l.initial.states;
}
