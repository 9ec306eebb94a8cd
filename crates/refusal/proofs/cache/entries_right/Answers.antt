use Rattle.std.proofs.Common.{ℕ, ◌∙◌, rules}
use Rattle.std.proofs.lemmas.Iterator.{YieldsList-from_slice}
use Rattle.std.proofs.lemmas.Iterator.Consumers.{YieldsList-from_enumerate}
use Rattle.std.proofs.lemmas.Iterator.Search.{all_from_yields_List}
use Rattle.refusal.specs.Refusal.{entry_right, entries_right}
use Rattle.refusal.proofs.Tests.{all_from}
use Rattle.refusal.proofs.cache.entries_right.Goals as goal

pub returns : goal.returns
unfolding entries_right
returns c =
    let a = c.args in
    λ board.
    all_from_yields_List (λ (p : ℕ × ℕ). entry_right board a.memory.now p.0 p.1) _ _ _ c.all.ensures.ran
    (YieldsList-from_enumerate (YieldsList-from_slice a.cache.now cc) cc) (λ x b q k. search rules)
    ∙ all_from (entry_right board a.memory.now) a.cache.now 0
