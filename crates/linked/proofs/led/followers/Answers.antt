use Rattle.std.proofs.Common.{◌≡◌, ℕ, ◌-◌, refl, ap, ◌∙◌, arith}
use Rattle.commit.specs.Commit.{core_count}
use Rattle.refusal.specs.Lent.{board_of}
use Rattle.linked.specs.Linked.{followers}
use Rattle.linked.specs.Inner.{unscheduled, shared}
use Rattle.linked.proofs.Cases.{runnable_after, followers_next}
use Rattle.linked.proofs.led.followers.Goals as goal

pub loop-core-init : goal.loop-core-init
unfolding followers
loop-core-init c = record { left = refl; inside = omega arith }

pub follow_if_linked-requires : goal.follow_if_linked-requires
follow_if_linked-requires c =
    let a = c.args in
    let l = c.loop-core in
    record {
      runnable = runnable_after a.memory.now a.states.now a.plan.limit a.plan.vectors.now a.cache.now a.lead c.requires.runnable c.requires.leads (l.core - 1) (omega arith) l.invariant.left;
      leads = c.requires.leads;
      core_nonzero = (omega arith, omega arith);
    }

pub loop-core-preserved : goal.loop-core-preserved
loop-core-preserved c =
    let a = c.args in
    let l = c.loop-core in
    record {
      left = followers_next a.memory.now a.states.now a.plan.limit a.plan.vectors.now a.cache.now a.lead c.requires.runnable c.requires.leads l.core (omega arith) (omega arith) l.invariant.left c.follow_if_linked.ensures;
      inside = omega arith;
    }

pub returns : goal.returns
returns c =
    let l = c.loop-core in
    let a = c.args in
    let n : l.core - 1 ≡ core_count a.states.now - 1 = omega arith in
    l.invariant.left ∙ ap (λ (n : ℕ). followers (board_of (unscheduled a.memory.now a.states.now a.plan.limit a.plan.vectors.now)) a.lead n (shared a.memory.now a.states.now a.cache.now)) n
