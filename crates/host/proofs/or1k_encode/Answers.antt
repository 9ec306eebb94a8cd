use Rattle.host.proofs.Answer.{answers}
use Rattle.host.proofs.or1k_encode.Goals as goal

pub returns : goal.returns
returns c = answers c.args.entry _ c.encode.result c.encode.ensures c.map_or.ensures
