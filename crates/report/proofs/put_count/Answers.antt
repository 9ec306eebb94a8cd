use Rattle.print.proofs.Stores.{puts_then}
use Rattle.report.proofs.put_count.Goals as goal

pub returns : goal.returns
returns c = puts_then c.put_decimal.ensures c.put.ensures
