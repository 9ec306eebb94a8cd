use Rattle.std.proofs.Common.{rules}
use Rattle.refusal.proofs.states.addresses_obey.Goals as goal

pub returns-then-unset_is_zero-2 : goal.returns-then-unset_is_zero-2
returns-then-unset_is_zero-2 c = λ board core. let h = c.status_obeys.ensures board core in search rules
