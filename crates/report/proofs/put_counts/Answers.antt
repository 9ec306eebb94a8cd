use Rattle.print.proofs.Stores.{puts_then}
use Rattle.report.specs.Result.{count_lines}
use Rattle.report.proofs.put_counts.Goals as goal

pub returns : goal.returns
unfolding count_lines
returns c = puts_then (puts_then c.put_count.ensures c.put_count-2.ensures) c.put_count-3.ensures
