use Rattle.std.proofs.Common.{rules, sym, ◌∙◌}
use Rattle.std.proofs.lemmas.Iterator.{YieldsList-from_slice}
use Rattle.std.proofs.lemmas.Iterator.Adapters.{option_map_id}
use Rattle.std.proofs.lemmas.Iterator.Consumers.{YieldsList-from_copied, max_from_yields_List}
use Rattle.refusal.specs.Refusal.{names_cores}
use Rattle.refusal.proofs.Tests.{greatest_below}
use Rattle.refusal.proofs.schedule.names_cores.Goals as goal

pub returns : goal.returns
unfolding names_cores
returns c =
    let s = c.args.schedule.now in
    greatest_below c.args.cores s c.max-greatest.result c.is_none_or.result _
    (sym (option_map_id _) ∙ max_from_yields_List _ _ c.max-greatest.ensures.ran (YieldsList-from_copied (YieldsList-from_slice s cc)))
    (λ x h. search rules) c.is_none_or.ensures
