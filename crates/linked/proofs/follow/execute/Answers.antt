use Rattle.std.proofs.Common.{◌+◌, ◌-◌, ◌*◌, arith}
use Rattle.effect.specs.State.{state_words}
use Rattle.linked.proofs.Cases.{alone_asked, executes_completed, executes_raised}
use Rattle.linked.proofs.follow.execute.Goals as goal

pub execute_form-requires : goal.execute_form-requires
execute_form-requires c =
    let a = c.args in
    let w = alone_asked a.memory.now a.states.now a.plan.limit a.plan.vectors.now a.cache.now a.core a.lead c.requires.follows c.put.ensures in record { runnable = w.0; mode_linked = w.1.0; form = w.1.1 }

pub returns-then-execute_form : goal.returns-then-execute_form
returns-then-execute_form c =
    let a = c.args in
    executes_completed a.memory.now a.states.now a.plan.limit a.plan.vectors.now a.cache.now a.core a.lead c.requires.follows c.put.ensures c.requires.reads_state c.execute_form.ensures c.if-execute_form.true c.put-then-execute_form.ensures c.relink.ensures

pub returns : goal.returns
returns c =
    let a = c.args in
    let n = a.core * state_words + state_words - a.core * state_words in
    executes_raised a.memory.now a.states.now a.plan.limit a.plan.vectors.now a.cache.now a.core a.lead c.requires.follows c.put.ensures c.requires.reads_state c.execute_form.ensures n (omega arith) c.if-execute_form.false c.copy.ensures c.copy-2.ensures c.halt.ensures
