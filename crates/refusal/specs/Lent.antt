-- What a run is lent and what it leaves: document 01, "What is lent"; document 02, note 4: "Runs take, beside the schedule, one 32-bit word of line
-- levels for each entry"; note 5: "Runs take a limit in bytes, 0 for none."; note 6: "Each run uses one list throughout". The decode
-- cache (the paper's table), which the fast run alone is lent, stands beside it.
use Rattle.std.specs.Prelude.{List, ℕ}
use Rattle.effect.specs.Board.{Board}
use Rattle.commit.specs.Commit.{core_count}
use Rattle.refusal.specs.declared.Plan.{Plan}

pub record Lent : Type 0 where
  pub memory : List ℕ
  pub states : List ℕ
  pub schedule : List ℕ
  pub levels : List ℕ
  pub limit : ℕ
  pub vectors : List ℕ

abbrev pub lent : List ℕ → List ℕ → List ℕ → List ℕ → ℕ → List ℕ → Lent
lent mem s schedule levels limit vectors = record {
  memory = mem;
  states = s;
  schedule = schedule;
  levels = levels;
  limit = limit;
  vectors = vectors;
}

-- memory and states, with what a run only reads
abbrev pub lent_by : List ℕ → List ℕ → Plan → Lent
lent_by mem s plan = lent mem s plan.schedule.now plan.levels.now plan.limit plan.vectors.now

-- memory and states afterwards
pub record Left : Type 0 where
  pub memory : List ℕ
  pub states : List ℕ

abbrev pub left : List ℕ → List ℕ → Left
left mem s = record { memory = mem; states = s }

-- what every instruction of a run is given: the core count, the limit and the vectors
abbrev pub board_of : Lent → Board
board_of l = record { cores = core_count l.states; limit = l.limit; vectors = l.vectors }
