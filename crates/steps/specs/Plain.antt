-- An entry of the plain run, for its own core: document 01, "Plain run"; document 02, notes 4 to 6. The whole run, linked cores included, is linked/specs/Run.
use Rattle.std.specs.Prelude.{Bool, ◌&&◌, not, List, [], ◌∷◌, ℕ, ◌+◌, ◌/◌, eqb, leb, length, if◌then◌else◌}
use Rattle.effect.specs.State.{pc_at, mode_at, running}
use Rattle.effect.specs.Board.{Board}
use Rattle.effect.specs.declared.types.Effect.{Effect}
use Rattle.commit.specs.Commit.{word_at, fetch_fault, states_after, memory_after, raised_by}
use Rattle.decode_cache.specs.Cache.{form_at}
use Rattle.semantics.specs.Meaning.{effect_of}
use Rattle.pic.specs.Interrupt.{latched, is_interrupted, interruption}
use Rattle.refusal.specs.Lent.{Lent, Left}
use Rattle.steps.specs.declared.Scheduled.{Scheduled}
use Rattle.steps.specs.declared.counts.Counts.{Counts}

-- what a run has come to
pub record Plain : Type 0 where
  pub memory : List ℕ
  pub states : List ℕ
  pub executed : ℕ
  pub raised : ℕ

-- ---- the entries of the schedule, each with the levels of its lines

-- "Runs take, beside the schedule, one 32-bit word of line levels for each entry."
unfoldable pub scheduled : List ℕ → List ℕ → List Scheduled
scheduled [] levels = []
scheduled (core ∷ schedule) [] = []
scheduled (core ∷ schedule) (lines ∷ levels) = record { core = core; lines = lines } ∷ scheduled schedule levels

abbrev pub scheduled_by : Lent → List Scheduled
scheduled_by l = scheduled l.schedule l.levels

-- ---- an entry

-- "If its core is not in mode 3": halted, or linked (document 02, note 8: "a linked core's own entry does nothing", so that its lines are not latched either)
abbrev pub is_running : List ℕ → ℕ → Bool
is_running s core = eqb (word_at s core mode_at) running

-- "On a running core's entry, PICSR first gains the bits of lines and PICMR together."
abbrev pub latching : Plain → Scheduled → Plain
latching p entry = record {
  memory = p.memory;
  states = latched p.states entry.core entry.lines;
  executed = p.executed;
  raised = p.raised;
}

-- "PC outside memory": a word's four bytes are all inside, or it is outside
abbrev pub is_inside : List ℕ → List ℕ → ℕ → Bool
is_inside mem s core = leb (word_at s core pc_at + 4) (length mem)

-- the number of the memory word at PC, which is a multiple of 4
abbrev pub fetched : List ℕ → ℕ → ℕ
fetched s core = word_at s core pc_at / 4

-- whether the entry then fetches: an interrupt is "in place of a fetch", and one outside memory is none
unfoldable pub is_fetch : List ℕ → List ℕ → ℕ → Bool
is_fetch mem s core = not (is_interrupted s core) && is_inside mem s core

-- what it does if not: "the step takes vector 800 in place of a fetch" (800 in the old list; by note 6 the list's vector of interrupts); "PC outside memory is a
-- bus error"
unfoldable pub unfetched : List ℕ → ℕ → Effect
unfetched s core = if is_interrupted s core then interruption s core else fetch_fault s core

-- ".. else the word that memory then holds there is fetched, decoded and executed."
unfoldable pub plain_effect : Board → List ℕ → List ℕ → ℕ → Effect
plain_effect board mem s core =
    if is_fetch mem s core then effect_of board mem s core (form_at board mem (fetched s core)) else unfetched s core

-- a running core's entry, with the effect e: it "adds 1 to executed"; "An exception adds 1 to raised." Document 02, note 4, of an interrupt: "it counts as
-- executed and raised"
unfoldable pub plain_after : Board → Plain → ℕ → Effect → Plain
plain_after board p core e = record {
  memory = memory_after p.memory e;
  states = states_after board.vectors p.states core e;
  executed = p.executed + 1;
  raised = p.raised + raised_by e.outcome;
}

-- the entry of a running core whose lines are latched
unfoldable pub plain_entry : Board → Plain → ℕ → Plain
plain_entry board p core = plain_after board p core (plain_effect board p.memory p.states core)

-- "If its core is not in mode 3, an entry changes nothing."
unfoldable pub plain_step : Board → Plain → Scheduled → Plain
plain_step board p entry = if is_running p.states entry.core then plain_entry board (latching p entry) entry.core else p

-- memory and states that are left, with the counts of executed and raised
abbrev pub plain_of : Left → Counts → Plain
plain_of x n = record { memory = x.memory; states = x.states; executed = n.executed; raised = n.raised }
