use mathlib.Core.Path.{◌∙◌}
use native.Mathlib.Omega.{arith}
use Rattle.effect.specs.Board.{board_of_code}
use Rattle.semantics.proofs.Groups.{is_cache, is_product}
use Rattle.exec.proofs.Performs.{committable}
use Rattle.exec.proofs.perform.top.Goals as goal

pub advance-requires : goal.advance-requires
advance-requires c =
    committable (board_of_code c.args.board) c.args.memory.now _ _ _ _ c.inputs_at.ensures _ (c.cache-action.ensures ∙ is_cache _ _ _ _ (omega arith, omega arith))

pub advance-requires-else-kind-lt-PRODUCT : goal.advance-requires-else-kind-lt-PRODUCT
advance-requires-else-kind-lt-PRODUCT c =
    committable (board_of_code c.args.board) c.args.memory.now _ _ _ _ c.inputs_at-else-kind-lt-PRODUCT.ensures _ (c.product-action.ensures ∙ is_product _ _ _ _ (omega arith))
