-- Helper of the code. What the parts of a commit promise one another, and what an instruction tells the run; the papers' commit is Commit.antt.
use Rattle.std.specs.Prelude.{List, ◌≡◌, ℕ, ◌+◌, ◌<◌, ◌≤◌, get_or, Option, option_map, IfSome}
use Rattle.isa.specs.Entry.{fields_of}
use Rattle.isa.specs.declared.entry.Fields.{Fields}
use Rattle.memory.specs.Memory.{bytes}
use Rattle.effect.specs.State.{state_words}
use Rattle.effect.specs.Inner.{effect_by}
use Rattle.effect.specs.Effect.{Outcome}
use Rattle.effect.specs.declared.types.Inputs.{Inputs}
use Rattle.effect.specs.declared.types.Effect.{Effect}
use Rattle.effect.specs.declared.types.Store.{Store}
use Rattle.effect.specs.declared.types.Action.{Action}
use Rattle.commit.specs.Commit.{reads, own_state, memory_after}
use Rattle.commit.specs.declared.Done.{Done}

-- what the run is told of an outcome and a store
abbrev pub tells : Outcome → Option Store → Done
tells o s = record { outcome = o; stored = option_map (λ s. s.address) s }

abbrev pub done_by : Effect → Done
done_by e = tells e.outcome e.store

-- ---- One core's own state, by itself: it is read and written as the states of a board with one core are.

abbrev pub own_word : List ℕ → ℕ → ℕ
own_word own place = get_or own place 0

abbrev pub own_inputs : List ℕ → ℕ → Fields → Inputs
own_inputs own core f = reads core (own_word own) f

unfoldable pub entry_inputs : List ℕ → ℕ → ℕ → Inputs
entry_inputs own core entry = own_inputs own core (fields_of entry)

-- the effect of an entry's action
abbrev pub action_effect : List ℕ → ℕ → ℕ → Action → Effect
action_effect own core entry a = effect_by (entry_inputs own core entry) a

-- the effect e turned own into own', and ended in o
pub record Owned (vectors own : List ℕ) (e : Effect) (own' : List ℕ) (o : Outcome) : Type 0 where
  pub left : own' ≡ own_state vectors own 0 e
  pub ended : o ≡ e.outcome

-- the effect e turned memory mem and own into mem' and own', and the answer is r
pub record Performed (vectors mem own : List ℕ) (e : Effect) (mem' own' : List ℕ) (r : Done) : Type 0 where
  pub memory : mem' ≡ memory_after mem e
  pub left : own' ≡ own_state vectors own 0 e
  pub done : r ≡ done_by e

-- ---- what can be committed

-- the bytes of a store, if there is one, are in a memory of len bytes
abbrev pub Storable : ℕ → Option Store → Type 0
Storable len s = IfSome s (λ s. s.address + bytes s.width ≤ len)

-- so are an effect's, and it writes to a word of its core's state
pub record Fits (len : ℕ) (e : Effect) : Type 0 where
  pub place_lt : e.place < state_words
  pub storable : Storable len e.store

-- the commit of an entry's action, with the outcome for an answer, and with what the run is told
abbrev pub Acted : List ℕ → List ℕ → List ℕ → ℕ → ℕ → Action → List ℕ → List ℕ → Outcome → Type 0
Acted vectors mem own core entry a mem' own' o =
    (mem' ≡ memory_after mem (action_effect own core entry a)) × Owned vectors own (action_effect own core entry a) own' o

abbrev pub Commits : List ℕ → List ℕ → List ℕ → ℕ → ℕ → Action → List ℕ → List ℕ → Done → Type 0
Commits vectors mem own core entry a mem' own' r = Performed vectors mem own (action_effect own core entry a) mem' own' r
