use Rattle.host.proofs.Parts.{packs}
use Rattle.host.proofs.or1k_fast_run.Goals as goal

pub pack-requires : goal.pack-requires
pack-requires c = c.fast_run.ensures.small

pub returns : goal.returns
returns c =
    record {
      answer = c.fast_run.result;
      packs = packs c.fast_run.result _ c.fast_run.ensures.small c.pack.ensures;
      promise = c.fast_run.ensures;
    }
