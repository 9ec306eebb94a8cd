use Rattle.std.proofs.Common.{ap}
use lib.Dec.{eqb}
use Rattle.codec.proofs.Encodes.{encodes_by}
use Rattle.codec.proofs.encoder.checked.Goals as goal

pub returns : goal.returns
returns c =
    let a = c.args in
    rw c.then_some.ensures (encodes_by a.e a.w c.requires c.ranges.w.fits _ (ap (λ n. eqb n a.e) c.decode.ensures))
