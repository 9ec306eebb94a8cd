use Prim.Native.Nat.{◌+◌, ◌-◌}
use native.Mathlib.Omega.{arith}
use Rattle.text.specs.Digits.{digit}
use Rattle.text.proofs.Laws.{digits_are}
use Rattle.text.proofs.digit.Goals as goal

pub returns-in-48-to-57 : goal.returns-in-48-to-57
unfolding digit
returns-in-48-to-57 c = digits_are (λ b. b - 48) 48 10 tt c.args.b (omega arith) (omega arith)

pub returns-in-97-to-102 : goal.returns-in-97-to-102
unfolding digit
returns-in-97-to-102 c = digits_are (λ b. b - 97 + 10) 97 6 tt c.args.b (omega arith) (omega arith)

pub returns-in_default : goal.returns-in_default
unfolding digit
returns-in_default c = digits_are (λ _. 16) 0 48 tt c.args.b (omega arith) (omega arith)

pub returns-in_default-2 : goal.returns-in_default-2
unfolding digit
returns-in_default-2 c = digits_are (λ _. 16) 58 39 tt c.args.b (omega arith) (omega arith)

pub returns-in_default-3 : goal.returns-in_default-3
unfolding digit
returns-in_default-3 c = digits_are (λ _. 16) 103 153 tt c.args.b (omega arith) (omega arith)
