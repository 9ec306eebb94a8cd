use mathlib.Core.Path.{◌∙◌}
use native.Mathlib.Omega.{arith}
use Rattle.effect.specs.Board.{board_of_code}
use Rattle.semantics.proofs.Groups.{is_branch, is_nop_movhi, is_control, is_load}
use Rattle.exec.proofs.Performs.{committable}
use Rattle.exec.proofs.perform.low.Goals as goal

pub jump-requires : goal.jump-requires
jump-requires c =
    committable (board_of_code c.args.board) c.args.memory.now _ _ _ _ c.inputs_at.ensures _ (c.branch-action.ensures ∙ is_branch _ _ _ _ (omega arith))

pub advance-requires : goal.advance-requires
advance-requires c =
    committable (board_of_code c.args.board) c.args.memory.now _ _ _ _ c.inputs_at-else-kind-lt-NOP_MOVHI.ensures _ (c.nop_movhi-action.ensures ∙ is_nop_movhi _ _ _ _ (omega arith, omega arith))

pub jump-requires-then-kind-lt-LOAD : goal.jump-requires-then-kind-lt-LOAD
jump-requires-then-kind-lt-LOAD c =
    committable (board_of_code c.args.board) c.args.memory.now _ _ _ _ c.inputs_at-then-kind-lt-LOAD.ensures _ (c.control-action.ensures ∙ is_control _ _ _ _ (omega arith, omega arith))

pub advance-requires-else-kind-lt-LOAD : goal.advance-requires-else-kind-lt-LOAD
advance-requires-else-kind-lt-LOAD c =
    committable (board_of_code c.args.board) c.args.memory.now _ _ _ _ c.inputs_at-else-kind-lt-LOAD.ensures _ (c.load-action.ensures ∙ is_load _ _ _ _ (omega arith, omega arith))
