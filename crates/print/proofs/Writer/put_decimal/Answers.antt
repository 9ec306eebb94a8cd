use native.Mathlib.Omega.{arith}
use lib.ListN.{length-append}
use Rattle.print.specs.Digits.{decimal}
use Rattle.print.proofs.Stores.{puts_then}
use Rattle.print.proofs.Places.{length_decimal}
use Rattle.print.proofs.Writer.put_decimal.Goals as goal

pub put_digits-requires : goal.put_digits-requires
put_digits-requires c = (omega (arith, simp length-append at c.requires, length_decimal c.args.n, c.decimal_places.ensures), omega arith, omega arith)

pub returns : goal.returns
unfolding decimal
returns c = puts_then c.put.ensures (rw c.decimal_places.ensures at c.put_digits.ensures)
