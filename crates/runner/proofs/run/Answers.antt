use native.Mathlib.Omega.{arith}
use Rattle.play.proofs.Parts.{length_zeros}
use Rattle.play.proofs.Printing.{never_too_small}
use Rattle.runner.proofs.run.Goals as goal

pub unreachable-requires : goal.unreachable-requires
unreachable-requires c = let l = length_zeros 2056 in never_too_small _ c.run_card.ensures (omega arith) c.in_default.is
