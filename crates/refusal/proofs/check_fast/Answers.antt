use Rattle.std.proofs.Common.{sym, ◌∙◌}
use Rattle.refusal.specs.Lent.{lent_by, board_of}
use Rattle.refusal.proofs.Passes.{then_cache, before_cache, cause_number}
use Rattle.refusal.proofs.check_fast.Goals as goal
use Rattle.std.proofs.lemmas.Result.{err_from_is_err_and}

pub returns-in_err-check : goal.returns-in_err-check
returns-in_err-check c =
    let a = c.args in
    let p = err_from_is_err_and c.from_residual.result c.from_residual.ensures.1 in
    let l = lent_by a.memory.now a.states.now a.plan in
    let e = c.in_err-check.ensures in
    rw (p.1, p.2) (e ∙ before_cache l a.cache.now (λ z. cause_number c.in_err-check.field-0.0 (e ∙ z)))

pub returns : goal.returns
returns c =
    let a = c.args in
    let l = lent_by a.memory.now a.states.now a.plan in
    c.check_cache.ensures (board_of l) ∙ then_cache l a.cache.now (sym (c.in_ok-check.ensures))
