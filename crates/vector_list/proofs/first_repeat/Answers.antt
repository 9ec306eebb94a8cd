use mathlib.Core.Path.{◌≡◌, sym, ◌∙◌}
use native.Mathlib.Omega.{arith}
use Prim.Native.Nat.{◌+◌, ◌-◌}
use lib.ListN.{length}
use Rattle.vector_list.proofs.Laws.{repeat_next, repeat_here, repeat_none, repeat_found, repeat_nowhere}
use Rattle.vector_list.proofs.first_repeat.Goals as goal

pub returns-then-not-is_new : goal.returns-then-not-is_new
returns-then-not-is_new c =
    let list = c.args.list.now in
    let l = c.loop-i in
    let n = length list - l.i in
    let m = length list - (l.i + 1) in
    let e : n ≡ m + 1 = omega arith in
    let new = sym c.is_new.ensures ∙ c.if-not-is_new.true in
    (repeat_found list l.i (l.invariant ∙ repeat_here list l.i n m e new) c.loop-i-test.true, c.loop-i-test.true)

pub loop-i-preserved : goal.loop-i-preserved
loop-i-preserved c =
    let list = c.args.list.now in
    let l = c.loop-i in
    let n = length list - l.i in
    let m = length list - (l.i + 1) in
    let e : n ≡ m + 1 = omega arith in
    let new = sym c.is_new.ensures ∙ c.if-not-is_new.false in
    l.invariant ∙ repeat_next list l.i n m e new

pub returns : goal.returns
returns c =
    let list = c.args.list.now in
    let l = c.loop-i in
    let e : length list - l.i ≡ 0 = omega arith in
    let f : l.i ≡ length list = omega arith in
    (repeat_nowhere list (rw (e, repeat_none) at l.invariant ∙ f), tt)
