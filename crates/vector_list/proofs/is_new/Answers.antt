use Rattle.std.proofs.Common.{◌∙◌, ap, not}
use Rattle.vector_list.proofs.Laws.{new_by_search}
use Rattle.vector_list.proofs.is_new.Goals as goal

pub returns : goal.returns
returns c = let a = c.args in ap not c.contains.ensures.value ∙ new_by_search a.list.now a.i c.requires
