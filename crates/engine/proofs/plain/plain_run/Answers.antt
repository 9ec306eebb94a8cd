use Rattle.std.proofs.Common.{sym}
use Rattle.engine.proofs.Answers.{plain_runnable, plain_ran}
use Rattle.engine.proofs.plain.plain_run.Goals as goal

pub run-requires : goal.run-requires
run-requires c = plain_runnable _ (sym c.in_ok-check.ensures)

pub returns : goal.returns
returns c = plain_ran _ _ _ _ _ (sym c.in_ok-check.ensures) c.run.ensures
