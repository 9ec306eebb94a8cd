use lib.ListN.{drop}
use Rattle.print.proofs.Stores.{Rest}
use Rattle.report.specs.Result.{register_lines}
use Rattle.report.proofs.put_registers.Given as goal

abbrev pub invariant-loop-number : goal.invariant-loop-number
invariant-loop-number l = Rest l.initial.w (register_lines 0 l.values) l.w (register_lines l.number (drop l.number l.values))
