use Rattle.host.proofs.Parts.{packs}
use Rattle.host.proofs.or1k_plain_run.Goals as goal

pub pack-requires : goal.pack-requires
pack-requires c = c.plain_run.ensures.small

pub returns : goal.returns
returns c =
    record {
      answer = c.plain_run.result;
      packs = packs c.plain_run.result _ c.plain_run.ensures.small c.pack.ensures;
      promise = c.plain_run.ensures;
    }
