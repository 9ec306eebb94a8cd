use Rattle.steps.proofs.Schedule.{form_executed}
use Rattle.steps.proofs.execute_form.Goals as goal

pub returns : goal.returns
returns c =
    let a = c.args in
    form_executed a.memory.now a.states.now a.plan.limit a.plan.vectors.now a.cache.now a.core a.form c.requires.mode_linked c.entries-counts.ensures
