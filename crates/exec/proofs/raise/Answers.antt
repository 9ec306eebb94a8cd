use mathlib.Core.Path.{ap, ◌∙◌}
use native.Mathlib.Omega.{arith}
use Rattle.effect.specs.declared.types.Inputs.{Inputs}
use Rattle.effect.specs.Inner.{effect_by}
use Rattle.effect.specs.Effect.{raises, restart, faults}
use Rattle.commit.specs.Commit.{inputs}
use Rattle.commit.proofs.Commits.{placed_as, owned_as}
use Rattle.exec.proofs.raise.Goals as goal

pub commit_state-requires : goal.commit_state-requires
unfolding effect_by raises
commit_state-requires c = placed_as c.fault_effect.ensures (omega arith)

pub returns : goal.returns
unfolding effect_by inputs raises restart
returns c = let f = c.args.fault in owned_as (c.fault_effect.ensures ∙ ap (λ (x : Inputs). faults x f.cause f.eear) c.state_at-x.ensures) c.commit_state.ensures
