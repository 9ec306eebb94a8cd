use mathlib.Core.Path.{◌∙◌}
use native.Mathlib.Omega.{arith}
use Rattle.play.proofs.Printing.{never_refused, run_text_lem}
use Rattle.play.proofs.Lent.{lent_accepted, lent_text}
use Rattle.play.proofs.run_job.Goals as goal

pub unreachable-requires : goal.unreachable-requires
unreachable-requires c =
    let a = c.args in
    let b = c.requires.ready.bounds in
    let z = lent_accepted a.vectors.now c.requires.vectors_listed a.card.now a.job a.image.now _ _ _ _ c.requires.ready (omega arith) c.reset.ensures
    (omega arith) c.schedule.ensures in
    never_refused c.fast_run.ensures z c.in_default.field-0 c.in_default.is

pub returns-clause-text : goal.returns-clause-text
returns-clause-text c =
    let a = c.args in
    let b = c.requires.ready.bounds in
    let z = lent_accepted a.vectors.now c.requires.vectors_listed a.card.now a.job a.image.now _ _ _ _ c.requires.ready (omega arith) c.reset.ensures
    (omega arith) c.schedule.ensures in
    run_text_lem c.fast_run.ensures z c.in-Ok.counts c.in-Ok.is
    ∙ lent_text a.vectors.now c.requires.vectors_listed a.card.now a.job a.image.now _ _ _ _ c.requires.ready (omega arith) c.reset.ensures (omega arith)
    c.schedule.ensures
