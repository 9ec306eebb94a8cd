use Rattle.std.proofs.Common.{rules}
use Rattle.refusal.proofs.states.state_obeys.Goals as goal

pub returns-then-own-eq0 : goal.returns-then-own-eq0
returns-then-own-eq0 c = λ board. let h = c.addresses_obey.ensures board c.args.core in search rules
