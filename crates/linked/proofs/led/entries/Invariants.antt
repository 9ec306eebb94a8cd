use Rattle.std.proofs.Common.{◌≡◌, drop}
use Rattle.lawful.specs.Accepted.{AllAccepted}
use Rattle.refusal.specs.Lent.{lent, board_of}
use Rattle.steps.specs.Plain.{scheduled}
use Rattle.steps.specs.Counts.{no_counts, AtMost}
use Rattle.steps.specs.Inner.{fast_of, Right}
use Rattle.linked.specs.Run.{fast_from}
use Rattle.linked.proofs.led.entries.Given as goal

abbrev pub invariant-loop-i : goal.invariant-loop-i
invariant-loop-i l =
    let board = board_of (lent l.initial.memory l.initial.states l.plan.schedule.now l.plan.levels.now l.plan.limit l.plan.vectors.now) in record {
      left : fast_from board (scheduled (drop l.i l.plan.schedule.now) (drop l.i l.plan.levels.now)) (fast_of l.memory l.states l.cache l.counts)
          ≡ fast_from board (scheduled l.plan.schedule.now l.plan.levels.now) (fast_of l.initial.memory l.initial.states l.initial.cache no_counts);
      small : AtMost l.i l.counts;
      accepted : AllAccepted board l.states;
      right : Right board l.cache l.memory;
    }
