use Rattle.std.proofs.Common.{◌∙◌}
use Rattle.card.proofs.Whole.{whole, started, moved, ended}
use Rattle.card.proofs.read_card.Goals as goal

pub returns : goal.returns
returns c =
    let s = c.args.card in
    let at = moved s c.new.result (started s c.new.result c.new.ensures) c.header.result c.header.ensures in
    ended s c.header.result at c.finish.result c.finish.ensures ∙ whole s.now
