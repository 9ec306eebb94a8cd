use mathlib.Core.Bool.{true}
use mathlib.Core.Path.{◌≡◌}
use lib.ListN.{drop}
use Rattle.lawful.specs.Accepted.{AllAccepted}
use Rattle.pic.specs.Inner.{is_quiet, NoneLatched}
use Rattle.refusal.specs.Lent.{lent, board_of}
use Rattle.steps.specs.Plain.{scheduled}
use Rattle.steps.specs.Counts.{no_counts, AtMost}
use Rattle.steps.specs.Inner.{fast_of, given_from, Right}
use Rattle.steps.proofs.entries.Given as goal

abbrev pub invariant-loop-i : goal.invariant-loop-i
invariant-loop-i l =
    let board = board_of (lent l.initial.memory l.initial.states l.schedule l.levels l.limit l.vectors) in record {
      left : given_from board l.given (scheduled (drop l.i l.schedule) (drop l.i l.levels)) (fast_of l.memory l.states l.cache l.counts)
          ≡ given_from board l.given (scheduled l.schedule l.levels) (fast_of l.initial.memory l.initial.states l.initial.cache no_counts);
      small : AtMost l.i l.counts;
      accepted : AllAccepted board l.states;
      right : Right board l.cache l.memory;
      unlatched : is_quiet l.initial.states l.levels ≡ true → NoneLatched l.states;
    }
