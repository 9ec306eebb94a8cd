use mathlib.Core.Path.{◌∙◌}
use native.Mathlib.Omega.{arith}
use Rattle.effect.specs.Board.{board_of_code}
use Rattle.semantics.proofs.Groups.{is_add_immediate, is_immediate, is_compare_immediate}
use Rattle.exec.proofs.Performs.{committable, writable}
use Rattle.exec.proofs.perform.immediate.Goals as goal

pub advance-requires : goal.advance-requires
advance-requires c =
    committable (board_of_code c.args.board) c.args.memory.now _ _ _ _ c.inputs_at.ensures _ (c.add_immediate-action.ensures ∙ is_add_immediate _ _ _ _ (omega arith, omega arith))

pub write-requires : goal.write-requires
write-requires c =
    writable (board_of_code c.args.board) c.args.memory.now _ _ _ _ c.inputs_at-else-kind-lt-IMMEDIATE.ensures _ (c.immediate-w.ensures ∙ is_immediate _ _ _ _ (omega arith, omega arith))

pub write-requires-else-kind-lt-COMPARE_IMMEDIATE : goal.write-requires-else-kind-lt-COMPARE_IMMEDIATE
write-requires-else-kind-lt-COMPARE_IMMEDIATE c =
    writable (board_of_code c.args.board) c.args.memory.now _ _ _ _ c.inputs_at-else-kind-lt-COMPARE_IMMEDIATE.ensures _ (c.compare_immediate-w.ensures ∙ is_compare_immediate _ _ _ _ (omega arith, omega arith))
