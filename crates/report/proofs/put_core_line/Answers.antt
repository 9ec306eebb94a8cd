use Rattle.print.proofs.Stores.{puts_then}
use Rattle.report.specs.Result.{core_line}
use Rattle.report.proofs.put_core_line.Goals as goal

pub returns : goal.returns
unfolding core_line
returns c =
    puts_then
    (puts_then
    (puts_then (puts_then (puts_then c.put_decimal.ensures c.put_decimal-2.ensures) c.put_word.ensures) c.put_decimal-3.ensures) c.put_word-2.ensures)
    c.put.ensures
