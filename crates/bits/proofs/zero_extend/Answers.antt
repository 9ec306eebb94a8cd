use Rattle.std.proofs.Common.{◌%◌, ap, pow_pos}
use Rattle.bits.specs.Word.{extend}
use Rattle.bits.proofs.zero_extend.Goals as goal

pub nonzero_rem-result : goal.nonzero_rem-result
nonzero_rem-result c = rw c.power.ensures (pow_pos c.args.k)

pub returns : goal.returns
unfolding extend
returns c = ap (λ m. c.args.x % m) c.power.ensures
