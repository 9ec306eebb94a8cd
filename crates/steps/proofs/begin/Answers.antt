use Rattle.steps.specs.Inner.{alone}
use Rattle.steps.proofs.Cases.{begins_undisturbed}
use Rattle.steps.proofs.begin.Goals as goal

pub returns-then-mode-straight : goal.returns-then-mode-straight
returns-then-mode-straight c = let a = c.args in begins_undisturbed a.own.now (alone a.lines) a.given (c.requires c.if-mode-straight.true)
