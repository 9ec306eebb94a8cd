use Prim.Native.Nat.{◌+◌, ◌*◌, ◌^◌, ◌<◌}
use mathlib.Core.Path.{sym, ◌∙◌}
use native.Mathlib.Omega.{arith}
use Rattle.text.proofs.Laws.{number_step, number_stop, number_end, one_more, eight}
use borrow.Author.Rules.{rules}
use Rattle.text.proofs.number.Goals as goal

pub returns-then-base-d : goal.returns-then-base-d
returns-then-base-d c =
    let l = c.loop-b in
    sym (number_stop _ l.v l.b-index _ _ c.loop-b-test.true (c.from-d.ensures ∙ c.digit.ensures) c.if-base-d.true) ∙ l.invariant.same

pub overflow_mul-v : goal.overflow_mul-v
overflow_mul-v c =
    let l = c.loop-b in
    let small : l.v * c.args.base + c.from-d.result < 16 ^ 8 = eight (l.b-index + 1) (omega arith) (one_more l.b-index (omega arith) c.if-base-d.false l.invariant.small) in
    search rules

pub overflow_add-v : goal.overflow_add-v
overflow_add-v c =
    let l = c.loop-b in
    let small : l.v * c.args.base + c.from-d.result < 16 ^ 8 = eight (l.b-index + 1) (omega arith) (one_more l.b-index (omega arith) c.if-base-d.false l.invariant.small) in
    search rules

pub loop-b-preserved : goal.loop-b-preserved
loop-b-preserved c =
    let l = c.loop-b in
    record {
      same = sym (number_step _ l.v l.b-index _ _ c.loop-b-test.true (c.from-d.ensures ∙ c.digit.ensures) c.if-base-d.false) ∙ l.invariant.same;
      small = one_more l.b-index (omega arith) c.if-base-d.false l.invariant.small;
    }

pub returns : goal.returns
returns c =
    let l = c.loop-b in
    sym (number_end _ l.v l.b-index _ c.loop-b-test.false) ∙ l.invariant.same
