use Rattle.std.proofs.Common.{◌≡◌, ◌/◌, length, refl, sym, ◌∙◌, arith}
use Rattle.effect.specs.State.{state_words}
use Rattle.lawful.specs.Accepted.{accepted}
use Rattle.refusal.specs.Refusal.{states_obey}
use Rattle.bits.specs.Every.{every_below}
use Rattle.bits.proofs.Every.{below_next, below_stop}
use Rattle.refusal.proofs.states.states_accepted.Goals as goal

pub loop-core-init : goal.loop-core-init
unfolding every_below
loop-core-init c = λ board. refl

pub returns-then-not-state_accepted : goal.returns-then-not-state_accepted
unfolding states_obey
returns-then-not-state_accepted c =
    let s = c.args.states.now in
    let l = c.loop-core in
    λ board. sym (below_stop (accepted board s) _ l.core (omega arith) (sym (c.state_accepted.ensures board) ∙ c.if-not-state_accepted.true))

pub loop-core-preserved : goal.loop-core-preserved
loop-core-preserved c =
    let s = c.args.states.now in
    let l = c.loop-core in
    λ board. below_next (accepted board s) l.core (l.invariant board) (sym (c.state_accepted.ensures board) ∙ c.if-not-state_accepted.false)

pub returns : goal.returns
unfolding states_obey
returns c =
    let l = c.loop-core in
    let e : l.core ≡ length c.args.states.now / state_words = omega arith in
    λ board. sym (rw e at (l.invariant board))
