-- What a run counts: document 01, "Both runs report three counts: executed (entries of running cores), raised (those that took an exception), reused (0 in
-- the plain run)."
use Rattle.std.specs.Prelude.{ℕ, ◌+◌, ◌^◌, ◌≤◌, ◌<◌}
use Rattle.steps.specs.declared.counts.Counts.{Counts}

-- "its counts start at 0"
abbrev pub no_counts : Counts
no_counts = record { executed = 0; raised = 0; reused = 0 }

-- no count exceeds m. A schedule has at most 65,536 entries, so that each count has room in its 20 bits
pub record AtMost (m : ℕ) (n : Counts) : Type 0 where
  pub executed_le : n.executed ≤ m
  pub raised_le : n.raised ≤ m
  pub reused_le : n.reused ≤ m

-- the counts of both, which have room
abbrev pub added_to : Counts → Counts → Counts
added_to n m = record { executed = n.executed + m.executed; raised = n.raised + m.raised; reused = n.reused + m.reused }

pub record Addable (n m : Counts) : Type 0 where
  pub executed_lt : n.executed + m.executed < 2 ^ 32
  pub raised_lt : n.raised + m.raised < 2 ^ 32
  pub reused_lt : n.reused + m.reused < 2 ^ 32
