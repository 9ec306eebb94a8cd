use Rattle.std.proofs.Common.{◌≡◌, true}
use Rattle.effect.specs.Board.{Board}
use Rattle.lawful.specs.Accepted.{accepted}
use Rattle.bits.specs.Every.{every_below}
use Rattle.refusal.proofs.states.states_accepted.Given as goal

abbrev pub invariant-loop-core : goal.invariant-loop-core
invariant-loop-core l = (board : Board) → every_below l.core (accepted board l.states) ≡ true
