use mathlib.Core.Path.{◌≡◌}
use mathlib.Core.List.{◌++◌}
use Rattle.std.proofs.Common.{rules}
use Rattle.effect.specs.Board.{board_of_code}
use Rattle.effect.specs.State.{own_words, with_own_words}
use Rattle.exec.proofs.Executes.{performed_whole}
use Rattle.exec.proofs.perform.perform.Goals as goal

pub returns-then-kind-lt-ADD_IMMEDIATE : goal.returns-then-kind-lt-ADD_IMMEDIATE
returns-then-kind-lt-ADD_IMMEDIATE c =
    let a = c.args in
    let o : c.unwrap-state.result.now ≡ own_words a.own.now 0 = search rules in
    let w : c.low.new.own ++ c.split_at_mut-part.result.1.now ≡ with_own_words a.own.now 0 c.low.new.own = search rules in
    performed_whole a.own.now c.requires (board_of_code a.board) a.memory.now a.core a.kind a.entry o w c.low.ensures

pub returns-else-kind-lt-ADD_IMMEDIATE : goal.returns-else-kind-lt-ADD_IMMEDIATE
returns-else-kind-lt-ADD_IMMEDIATE c =
    let a = c.args in
    let o : c.unwrap-state.result.now ≡ own_words a.own.now 0 = search rules in
    let w : c.high.new.own ++ c.split_at_mut-part.result.1.now ≡ with_own_words a.own.now 0 c.high.new.own = search rules in
    performed_whole a.own.now c.requires (board_of_code a.board) a.memory.now a.core a.kind a.entry o w c.high.ensures
