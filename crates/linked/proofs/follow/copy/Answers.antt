use Rattle.std.proofs.Common.{◌<◌, get_or, sym, ◌∙◌, arith, length-set, get_or-set_other, get_or-set_same, ext_get_or}
use Rattle.bits.proofs.Cases.{by_equality}
use Rattle.linked.proofs.follow.copy.Goals as goal

pub loop-i-init : goal.loop-i-init
loop-i-init c = ((λ j h. absurd (let z : j < 0 = h in omega arith)), sym c.requires)

pub loop-i-preserved : goal.loop-i-preserved
loop-i-preserved c =
    let l = c.loop-i in
    let from = c.args.from.now in (
      (λ j h.
          by_equality j l.i
          (λ q. rw q (get_or-set_same l.to l.i (get_or from l.i 0) 0 (omega (arith, l.invariant.1, c.loop-i-test.true))))
          (λ n. get_or-set_other l.to l.i j (get_or from l.i 0) 0 n ∙ l.invariant.0 j (omega arith))),
      simp length-set l.invariant.1,
    )

pub returns : goal.returns
returns c =
    let l = c.loop-i in
    ext_get_or 0 l.to c.args.from.now l.invariant.1 (λ j h. l.invariant.0 j (omega (arith, c.loop-i-test.false, l.invariant.1)))
