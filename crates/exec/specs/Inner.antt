-- Helper of the code. What the parts of one instruction promise one another.
use Rattle.std.specs.Prelude.{List, ◌≡◌, ℕ}
use Rattle.effect.specs.Board.{Board}
use Rattle.effect.specs.declared.types.Effect.{Effect}
use Rattle.commit.specs.Commit.{memory_after, states_after}
use Rattle.commit.specs.Inner.{done_by, entry_inputs, Performed}
use Rattle.commit.specs.declared.Done.{Done}
use Rattle.semantics.specs.Meaning.{meaning, effect_of}

-- an entry executed as being of that kind: the promise of each group
abbrev pub Performs : Board → List ℕ → List ℕ → ℕ → ℕ → ℕ → List ℕ → List ℕ → Done → Type 0
Performs board mem own core kind entry mem' own' r = Performed board.vectors mem own (meaning board mem kind (entry_inputs own core entry)) mem' own' r

-- ---- Every core's state

-- the effect e of a core turned memory mem and the states s into mem' and s', and the answer is r
pub record Executed (vectors mem s : List ℕ) (core : ℕ) (e : Effect) (mem' s' : List ℕ) (r : Done) : Type 0 where
  pub memory : mem' ≡ memory_after mem e
  pub states : s' ≡ states_after vectors s core e
  pub done : r ≡ done_by e

-- the instruction of an entry did so
abbrev pub Executes : Board → List ℕ → List ℕ → ℕ → ℕ → List ℕ → List ℕ → Done → Type 0
Executes board mem s core entry mem' s' r = Executed board.vectors mem s core (effect_of board mem s core entry) mem' s' r
