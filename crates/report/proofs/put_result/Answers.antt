use Rattle.print.proofs.Stores.{puts_then}
use Rattle.report.specs.Result.{result_text}
use Rattle.report.proofs.put_result.Goals as goal

pub returns : goal.returns
unfolding result_text
returns c = puts_then (puts_then c.put_counts.ensures c.put_cores.ensures) c.put.ensures
