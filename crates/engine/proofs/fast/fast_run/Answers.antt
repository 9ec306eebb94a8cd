use Rattle.std.proofs.Common.{sym}
use Rattle.engine.proofs.Answers.{fast_runnable, fast_ran}
use Rattle.engine.proofs.fast.fast_run.Goals as goal

pub run-requires : goal.run-requires
run-requires c = fast_runnable _ _ (sym c.in_ok-check_fast.ensures)

pub returns : goal.returns
returns c =
    let run = c.run in
    fast_ran _ _ _ _ _ _ (sym c.in_ok-check_fast.ensures) run.ensures run.auto.memory run.auto.states run.auto.cache
