use Rattle.print.proofs.Stores.{puts_then}
use Rattle.report.specs.Result.{refusal_text}
use Rattle.report.proofs.put_refusal.Goals as goal

pub returns : goal.returns
unfolding refusal_text
returns c = puts_then (puts_then c.put_decimal.ensures c.put_decimal-2.ensures) c.put.ensures
