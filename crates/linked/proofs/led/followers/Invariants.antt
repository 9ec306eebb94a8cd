use Rattle.std.proofs.Common.{◌≡◌, ◌-◌, ◌≤◌}
use Rattle.commit.specs.Commit.{core_count}
use Rattle.refusal.specs.Lent.{board_of}
use Rattle.linked.specs.Linked.{followers}
use Rattle.linked.specs.Inner.{unscheduled, shared}
use Rattle.linked.proofs.led.followers.Given as goal

abbrev pub invariant-loop-core : goal.invariant-loop-core
invariant-loop-core l = record {
  left : shared l.memory l.states l.cache
      ≡ followers (board_of (unscheduled l.initial.memory l.initial.states l.plan.limit l.plan.vectors.now)) l.lead (l.core - 1) (shared l.initial.memory l.initial.states l.initial.cache);
  inside : l.core - 1 ≤ core_count l.initial.states - 1;
}
