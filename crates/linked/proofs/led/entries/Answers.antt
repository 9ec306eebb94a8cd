use Rattle.std.proofs.Common.{sym, ap, ◌∙◌, subst, arith}
use Rattle.refusal.specs.Lent.{board_of}
use Rattle.steps.specs.Counts.{AtMost}
use Rattle.steps.specs.Inner.{fast_of}
use Rattle.linked.specs.Run.{fast_from}
use Rattle.linked.specs.Inner.{unscheduled}
use Rattle.linked.proofs.Agree.{linked_kept}
use Rattle.linked.proofs.Cases.{unscheduled_runnable, scheduled_runnable, runnable_again}
use Rattle.linked.proofs.Entry.{from_next, from_end, led_on, added_small}
use Rattle.linked.proofs.led.entries.Goals as goal

pub loop-i-init : goal.loop-i-init
loop-i-init c =
    let p = c.requires in
    let zero = c.default-counts.ensures in
    record {
      left = rw (zero.0, zero.1.0, zero.1.1);
      small = record { executed_le = omega arith; raised_le = omega arith; reused_le = omega arith };
      accepted = p.accepted;
      right = p.right;
    }

pub entry-more-requires : goal.entry-more-requires
entry-more-requires c =
    let a = c.args in
    let p = c.requires in
    let l = c.loop-i in
    let h = p.cores_there l.i c.loop-i-test.true in
    scheduled_runnable
    (runnable_again a.memory.now a.states.now l.memory l.states a.plan.limit a.plan.vectors.now a.cache.now l.cache l.auto.states (unscheduled_runnable p) l.auto.memory l.auto.cache l.invariant.accepted l.invariant.right)
    _ _ (omega (arith, h, l.auto.states))

pub loop-i-preserved : goal.loop-i-preserved
loop-i-preserved c =
    let a = c.args in
    let p = c.requires in
    let l = c.loop-i in
    let h = c.loop-i-test.true in
    let entry = c.entry-more in
    let board = board_of (unscheduled a.memory.now a.states.now a.plan.limit a.plan.vectors.now) in
    let e = ap (fast_of _ _ _) c.add-counts.ensures
    ∙ led_on l.memory l.states a.plan.limit a.plan.vectors.now l.cache l.counts _ _ a.memory.now a.states.now l.auto.states entry.ensures in
    let n = p.cores_there l.i h in
    let kept = linked_kept board p.vectors_lawful (fast_of l.memory l.states l.cache l.counts) _ (omega (arith, n, l.auto.states)) l.invariant.accepted l.invariant.right e in
    record {
      left = ap (fast_from _ _) e ∙ sym (from_next board a.plan.schedule.now a.plan.levels.now l.i _ h (omega (arith, h, p.one_level_each))) ∙ l.invariant.left;
      small = subst (AtMost _) (sym c.add-counts.ensures) (added_small l.i l.invariant.small entry.ensures.once);
      accepted = kept.0;
      right = kept.1;
    }

pub returns : goal.returns
returns c =
    let l = c.loop-i in
    record {
      left = sym (from_end _ _ _ l.i _ c.loop-i-test.false) ∙ l.invariant.left;
      small = record { executed_le = omega arith; raised_le = omega arith; reused_le = omega arith };
    }
