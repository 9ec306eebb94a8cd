use mathlib.Core.Path.{sym, ◌∙◌}
use Rattle.decode_cache.proofs.Fetches.{at_filled}
use Rattle.decode_cache.proofs.fetch.Goals as goal

pub returns-in-Some : goal.returns-in-Some
returns-in-Some c =
    let a = c.args in
    let p = c.requires in
    λ board. at_filled board a.memory.now a.cache.now a.pc p.backed p.word_address.0 (sym c.in-Some.is ∙ c.filled_entry.ensures)
