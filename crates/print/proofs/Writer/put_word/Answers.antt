use native.Mathlib.Omega.{arith}
use lib.ListN.{length-append}
use Rattle.print.specs.Digits.{hexadecimal}
use Rattle.print.proofs.Stores.{puts_then}
use Rattle.print.proofs.Places.{length_hexadecimal}
use Rattle.print.proofs.Writer.put_word.Goals as goal

pub put_digits-requires : goal.put_digits-requires
put_digits-requires c = (omega (arith, simp (length-append, length_hexadecimal) at c.requires), omega arith, omega arith)

pub returns : goal.returns
unfolding hexadecimal
returns c = puts_then c.put.ensures c.put_digits.ensures
