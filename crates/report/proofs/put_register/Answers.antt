use Rattle.print.proofs.Stores.{puts_then, puts_nothing}
use Rattle.report.proofs.Lines.{register_zero, register_other}
use Rattle.report.proofs.put_register.Goals as goal

pub returns-then-value-ne0 : goal.returns-then-value-ne0
returns-then-value-ne0 c =
    rw (register_other c.args.number c.args.value c.if-value-ne0.true) (puts_then (puts_then c.put_decimal.ensures c.put_word.ensures) c.put.ensures)

pub returns-else-value-ne0 : goal.returns-else-value-ne0
returns-else-value-ne0 c = rw (register_zero c.args.number c.args.value c.if-value-ne0.false) puts_nothing
