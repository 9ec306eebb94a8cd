use mathlib.Core.Path.{ap, ◌∙◌}
use mathlib.Core.List.{List}
use Prim.Native.Nat.{ℕ}
use Rattle.effect.specs.State.{all, rules}
use Rattle.commit.specs.Inner.{own_word}
use Rattle.lawful.specs.Accepted.{accepted}
use Rattle.refusal.proofs.Tests.{part_rules}
use Rattle.refusal.proofs.states.state_accepted.Goals as goal

pub returns : goal.returns
unfolding accepted
returns c =
    let a = c.args in
    λ board. c.state_obeys.ensures board ∙ ap (λ (own : List ℕ). all (rules board a.core (own_word own))) c.own.ensures ∙ part_rules board a.states.now a.core c.requires
