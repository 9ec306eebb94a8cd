use Rattle.std.proofs.Common.{sym, ◌∙◌}
use Rattle.steps.specs.Counts.{no_counts}
use Rattle.steps.specs.Inner.{fast_of}
use Rattle.linked.proofs.Alone.{none_linked, from_alone}
use Rattle.linked.proofs.run.Goals as goal

pub returns : goal.returns
returns c =
    let a = c.args in
    let p = c.requires in
    let run = c.run.ensures in
    let none = none_linked a.states.now (sym c.any_linked.ensures ∙ c.if-any_linked.false) in
    record {
      left = run.left ∙ sym (from_alone _ p.vectors_lawful a.plan.schedule.now a.plan.levels.now (fast_of a.memory.now a.states.now a.cache.now no_counts) p.cores_there p.accepted p.right none);
      small = run.small;
    }
