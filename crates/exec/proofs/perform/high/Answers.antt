use mathlib.Core.Path.{◌∙◌}
use native.Mathlib.Omega.{arith}
use Rattle.effect.specs.Board.{board_of_code}
use Rattle.semantics.proofs.Groups.{is_compare}
use Rattle.exec.proofs.Performs.{writable}
use Rattle.exec.proofs.perform.high.Goals as goal

pub write-requires : goal.write-requires
write-requires c =
    writable (board_of_code c.args.board) c.args.memory.now _ _ _ _ c.inputs_at.ensures _ (c.compare-w.ensures ∙ is_compare _ _ _ _ (omega arith, omega arith))
