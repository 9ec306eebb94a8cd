-- The states that a run accepts: each core's obeys the rules of document 01's "What is lent" and of document 02, notes 4 and 8.
use Rattle.std.specs.Prelude.{Bool, List, ℕ, ◌<◌}
use Rattle.effect.specs.State.{all, rules}
use Rattle.effect.specs.Board.{Board}
use Rattle.commit.specs.Commit.{word_at, core_count}
use Rattle.lawful.specs.Inner.{LawfulState}

-- the test that a run makes of a core's state
unfoldable pub accepted : Board → List ℕ → ℕ → Bool
accepted board s core = all (rules board core (word_at s core))

-- the same rules as facts
abbrev pub Accepted : Board → List ℕ → ℕ → Type 0
Accepted board s core = LawfulState board core (word_at s core)

-- every core's
abbrev pub AllAccepted : Board → List ℕ → Type 0
AllAccepted board s = (core : ℕ) → core < core_count s → Accepted board s core
