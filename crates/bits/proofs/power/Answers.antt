use Rattle.std.proofs.Common.{◌≡◌, ◌*◌, ◌%◌, ◌^◌, ap, ◌∙◌, mod-eq_of_lt, arith}
use lib.Pow.{pow-lt}
use Rattle.bits.proofs.power.Goals as goal

pub returns : goal.returns
returns c =
    let e : 1 * 2 ^ c.args.k ≡ 2 ^ c.args.k = omega arith in
    ap (λ m. m % 2 ^ 32) e ∙ mod-eq_of_lt (pow-lt c.requires)
