use mathlib.Core.Path.{◌≡◌}
use Prim.Native.Nat.{◌-◌}
use lib.ListN.{length}
use Rattle.vector_list.specs.Rules.{first_repeat}
use Rattle.vector_list.proofs.first_repeat.Given as goal

abbrev pub invariant-loop-i : goal.invariant-loop-i
invariant-loop-i l = first_repeat l.list 0 (length l.list) ≡ first_repeat l.list l.i (length l.list - l.i)
