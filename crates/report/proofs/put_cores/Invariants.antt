use lib.ListN.{drop}
use Rattle.print.proofs.Stores.{Rest}
use Rattle.report.specs.Result.{core_texts, cores as cores_of}
use Rattle.report.proofs.Lines.{whole_texts}
use Rattle.report.proofs.put_cores.Given as goal

abbrev pub invariant-loop-core : goal.invariant-loop-core
invariant-loop-core l = Rest l.initial.w (core_texts 0 (cores_of l.states) l.states) l.w (whole_texts l.core (drop l.core l.whole))
