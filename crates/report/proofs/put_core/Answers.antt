use Rattle.print.proofs.Stores.{puts_then}
use Rattle.report.specs.Result.{core_text}
use Rattle.report.proofs.put_core.Goals as goal

pub returns : goal.returns
unfolding core_text
returns c = puts_then c.put_core_line.ensures c.put_registers.ensures
