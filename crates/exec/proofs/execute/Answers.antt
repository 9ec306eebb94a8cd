use mathlib.Core.Path.{◌≡◌}
use mathlib.Core.List.{◌++◌}
use Prim.Native.Nat.{◌*◌, ◌^◌, ◌<◌}
use native.Mathlib.Omega.{arith}
use lib.ListN.{take, drop}
use Rattle.std.proofs.Common.{rules}
use Rattle.effect.specs.Board.{board_of_code}
use Rattle.effect.specs.State.{state_words}
use Rattle.exec.proofs.Executes.{kept_from, stored_from}
use Rattle.exec.proofs.execute.Goals as goal

pub returns-in-Some : goal.returns-in-Some
returns-in-Some c =
    let a = c.args in
    let s = a.states.now in
    let done = c.perform-done in
    let f : a.entry < 2 ^ 64 = omega (arith, c.ranges) in
    let split = c.split_at_mut-own.result in
    let o : split.1.now ≡ drop (a.core * state_words) s = search rules in
    let w : split.0.now ++ done.new.own ≡ take (a.core * state_words) s ++ done.new.own = search rules in
    stored_from s a.core c.requires (board_of_code a.board) a.memory.now a.entry f o w done.ensures c.in-Some.is c.clear_links.ensures

pub returns-in_default : goal.returns-in_default
returns-in_default c =
    let a = c.args in
    let s = a.states.now in
    let done = c.perform-done in
    let f : a.entry < 2 ^ 64 = omega (arith, c.ranges) in
    let split = c.split_at_mut-own.result in
    let o : split.1.now ≡ drop (a.core * state_words) s = search rules in
    let w : split.0.now ++ done.new.own ≡ take (a.core * state_words) s ++ done.new.own = search rules in
    kept_from s a.core c.requires (board_of_code a.board) a.memory.now a.entry f o w done.ensures c.in_default.is
