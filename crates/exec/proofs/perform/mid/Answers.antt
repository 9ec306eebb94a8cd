use mathlib.Core.Path.{◌∙◌}
use native.Mathlib.Omega.{arith}
use Rattle.effect.specs.Board.{board_of_code}
use Rattle.semantics.proofs.Groups.{is_store, is_arithmetic, is_logic}
use Rattle.exec.proofs.Performs.{committable, writable, performs}
use Rattle.exec.proofs.perform.mid.Goals as goal

pub save-requires : goal.save-requires
save-requires c =
    committable (board_of_code c.args.board) c.args.memory.now _ _ _ _ c.inputs_at.ensures _ (c.store-action.ensures ∙ is_store _ _ _ _ (omega arith, omega arith))

pub advance-requires : goal.advance-requires
advance-requires c =
    committable (board_of_code c.args.board) c.args.memory.now _ _ _ _ c.inputs_at-else-kind-lt-ARITHMETIC.ensures _ (c.arithmetic-action.ensures ∙ is_arithmetic _ _ _ _ (omega arith, omega arith))

pub write-requires : goal.write-requires
write-requires c =
    writable (board_of_code c.args.board) c.args.memory.now _ _ _ _ c.inputs_at-else-kind-lt-LOGIC.ensures _ (c.logic-w.ensures ∙ is_logic _ _ _ _ (omega arith, omega arith))

pub returns-then-kind-lt-ARITHMETIC : goal.returns-then-kind-lt-ARITHMETIC
returns-then-kind-lt-ARITHMETIC c =
    performs _ _ _ _ _ _ c.inputs_at.ensures _ (c.store-action.ensures ∙ is_store _ _ _ _ (omega arith, omega arith)) c.save.ensures
