use Rattle.card.proofs.table.rule_of.Goals as goal

pub returns-in-Cores : goal.returns-in-Cores
returns-in-Cores c = simp c.in-Cores.is

pub returns-in-Memory : goal.returns-in-Memory
returns-in-Memory c = simp c.in-Memory.is
