-- What the parts of the step promise one another. Nothing here is the papers': Plain, Fast and History have that, and linked/specs/Linked has the linked cores.
use Rattle.std.specs.Prelude.{Bool, false, ◌&&◌, List, [], ◌∷◌, ◌≡◌, ℕ, ◌+◌, ◌<◌, ◌≤◌, eqb, length, get_or, if◌then◌else◌}
use Rattle.std.specs.declared.option.Option.{Option}
use Rattle.std.specs.declared.option.Option.TheVariants.{None, Some}
use Rattle.std.specs.Option.{is_some}
use Rattle.isa.specs.InstructionSet.{decode}
use Rattle.isa.specs.Vectors.{vector_count}
use Rattle.effect.specs.State.{mode_at, picsr_at, linked, running}
use Rattle.effect.specs.Board.{Board}
use Rattle.commit.specs.Commit.{word_at, core_count, states_after, memory_after, raised_by}
use Rattle.decode_cache.specs.Cache.{form_at}
use Rattle.decode_cache.specs.Inner.{Backed, fetch_at, cache_after}
use Rattle.decode_cache.specs.declared.Fetched.{Fetched}
use Rattle.semantics.specs.Meaning.{effect_of}
use Rattle.lawful.specs.Inner.{LawfulVectors}
use Rattle.lawful.specs.Accepted.{AllAccepted}
use Rattle.pic.specs.Interrupt.{latched, is_interrupted}
use Rattle.pic.specs.Inner.{is_quiet}
use Rattle.refusal.specs.Lent.{Lent, left, board_of}
use Rattle.refusal.specs.Refusal.{max_schedule}
use Rattle.steps.specs.Fast.{Fast, emptied, fast_entry, fast_step, turn_of, step_turn, counts_after}
use Rattle.steps.specs.History.{History, cached_at_first}
use Rattle.steps.specs.Counts.{no_counts, AtMost}
use Rattle.steps.specs.Plain.{is_running, scheduled_by, plain_after, plain_of}
use Rattle.steps.specs.declared.counts.Counts.{Counts}
use Rattle.steps.specs.declared.Scheduled.{Scheduled}
use Rattle.steps.specs.declared.Start.{Start}
use Rattle.steps.specs.declared.Start.TheVariants.{Interrupt, Execute}
use Rattle.steps.specs.declared.Start.TheVariants as start
use Rattle.steps.specs.declared.Turn.{Turn}
use Rattle.steps.specs.declared.Turn.TheVariants.{Instruction}

-- ---- what is lent and the counts, as what a run has come to

abbrev pub fast_of : List ℕ → List ℕ → List ℕ → Counts → Fast
fast_of mem s cache n = record { plain = plain_of (left mem s) n; cache = cache; reused = n.reused }

-- the history that a fast run has come to
abbrev pub history_of : Fast → History
history_of x = record { cached = cached_at_first x.cache; reused = x.reused }

-- ---- counts

-- an entry adds at most 1 to each
pub record Grown (n n' : Counts) : Type 0 where
  pub executed_le : n'.executed ≤ n.executed + 1
  pub raised_le : n'.raised ≤ n.raised + 1
  pub reused_le : n'.reused ≤ n.reused + 1

-- ---- a run

-- every filled entry of a cache is its word's form
abbrev pub Right : Board → List ℕ → List ℕ → Type 0
Right board cache mem = (k : ℕ) → k < length cache → (get_or cache k 0 ≡ 0 → ⊥) → get_or cache k 0 ≡ form_at board mem k

-- the schedule can be run on what is lent
pub record Runnable (l : Lent) (cache : List ℕ) : Type 0 where
  pub few_cores : core_count l.states ≤ 4
  pub few_entries : length l.schedule ≤ max_schedule
  pub one_level_each : length l.levels ≡ length l.schedule
  pub cores_there : (i : ℕ) → i < length l.schedule → get_or l.schedule i 0 < core_count l.states
  pub seven_vectors : length l.vectors ≡ vector_count
  pub vectors_lawful : LawfulVectors l.vectors
  pub accepted : AllAccepted (board_of l) l.states
  pub backed : Backed cache l.memory
  pub right : Right (board_of l) cache l.memory

-- ---- a form that may be given to linked cores, to be executed in place of a fetch

-- some word decodes to it
pub record IsForm (form : ℕ) : Type 0 where
  pub word : ℕ
  pub decodes : form ≡ decode word

-- a linked core executes what is given
abbrev pub is_linked : List ℕ → ℕ → Bool
is_linked s core = eqb (word_at s core mode_at) linked

abbrev pub is_given : List ℕ → ℕ → Option ℕ → Bool
is_given s core given = is_linked s core && is_some given

-- such an instruction: no word is fetched
unfoldable pub fast_form : Board → Fast → ℕ → ℕ → Fast
fast_form board x core form =
    let e = effect_of board x.plain.memory x.plain.states core form in
    record { plain = plain_after board x.plain core e; cache = emptied e x.cache; reused = x.reused }

abbrev pub form_turn : Board → List ℕ → List ℕ → ℕ → ℕ → Turn
form_turn board mem s core form = Instruction (effect_of board mem s core form).outcome false

-- an entry of the schedule, its core being given this form if it is linked
unfoldable pub given_step : Board → Option ℕ → Fast → Scheduled → Fast
given_step board None x entry = fast_step board x entry
given_step board (Some form) x entry = if is_linked x.plain.states entry.core then fast_form board x entry.core form else fast_step board x entry

unfoldable pub given_turn : Board → List ℕ → List ℕ → List ℕ → Scheduled → Option ℕ → Turn
given_turn board mem s cache entry None = step_turn board mem s cache entry
given_turn board mem s cache entry (Some form) =
    if is_linked s entry.core then form_turn board mem s entry.core form else step_turn board mem s cache entry

-- "The schedule's entries go in order, each on what the last left."
unfoldable pub given_from : Board → Option ℕ → List Scheduled → Fast → Fast
given_from board given [] x = x
given_from board given (entry ∷ more) x = given_from board given more (given_step board given x entry)

-- ---- what the code leaves

-- what is executed at pc, and the cache then: a form that is given, or what is fetched
abbrev pub taken : Board → List ℕ → List ℕ → ℕ → Option ℕ → Option Fetched
taken board mem cache pc None = fetch_at board mem cache pc
taken board mem cache pc (Some form) = Some (record { entry = form; reused = false })

abbrev pub cache_taken : Board → List ℕ → List ℕ → ℕ → Option ℕ → List ℕ
cache_taken board mem cache pc None = cache_after board mem cache pc
cache_taken board mem cache pc (Some form) = cache

abbrev pub Taken : Board → List ℕ → List ℕ → ℕ → Option ℕ → Option Fetched → List ℕ → Type 0
Taken board mem cache pc given f cache' = (f ≡ taken board mem cache pc given) × (cache' ≡ cache_taken board mem cache pc given)

-- the entry of a core that is not interrupted: what it hands up, and what it leaves
abbrev pub entered_turn : Board → List ℕ → List ℕ → List ℕ → ℕ → Option ℕ → Turn
entered_turn board mem s cache core None = turn_of board mem s cache core
entered_turn board mem s cache core (Some form) = form_turn board mem s core form

abbrev pub entered : Board → Fast → ℕ → Option ℕ → Fast
entered board x core None = fast_entry board x core
entered board x core (Some form) = fast_form board x core form

-- it turned what is lent into mem', s' and cache', whatever the counts are, and hands up r
pub record Entered (board : Board) (mem s cache : List ℕ) (core : ℕ) (given : Option ℕ) (mem' s' cache' : List ℕ) (r : Turn) : Type 0 where
  pub turn : r ≡ entered_turn board mem s cache core given
  pub left : (n : Counts) → fast_of mem' s' cache' (counts_after n r) ≡ entered board (fast_of mem s cache n) core given

-- the same of any entry of the schedule
pub record Stepped (board : Board) (mem s cache : List ℕ) (entry : Scheduled) (given : Option ℕ) (mem' s' cache' : List ℕ) (r : Turn) : Type 0 where
  pub turn : r ≡ given_turn board mem s cache entry given
  pub left : (n : Counts) → fast_of mem' s' cache' (counts_after n r) ≡ given_step board given (fast_of mem s cache n) entry

-- the schedule of l turned what is lent into mem', s' and cache', and its counts are n
pub record Finished (l : Lent) (given : Option ℕ) (cache mem' s' cache' : List ℕ) (n : Counts) : Type 0 where
  pub left : fast_of mem' s' cache' n ≡ given_from (board_of l) given (scheduled_by l) (fast_of l.memory l.states cache no_counts)
  pub small : AtMost max_schedule n

-- a linked core executed a form on what is lent, and r tells whether it completed
pub record FormExecuted (l : Lent) (cache : List ℕ) (core form : ℕ) (mem' s' cache' : List ℕ) (r : Bool) : Type 0 where
  pub memory : mem' ≡ memory_after l.memory (effect_of (board_of l) l.memory l.states core form)
  pub states : s' ≡ states_after l.vectors l.states core (effect_of (board_of l) l.memory l.states core form)
  pub entries_left : cache' ≡ emptied (effect_of (board_of l) l.memory l.states core form) cache
  pub completed : r ≡ eqb (raised_by (effect_of (board_of l) l.memory l.states core form).outcome) 0

-- ---- how an entry begins: the states then, and what comes next

-- an entry of a board with one core: so one core's words are read and written by themselves
abbrev pub alone : ℕ → Scheduled
alone lines = record { core = 0; lines = lines }

abbrev pub begun : List ℕ → Scheduled → List ℕ
begun s entry = if is_running s entry.core then latched s entry.core entry.lines else s

abbrev pub start_of : List ℕ → Scheduled → Option ℕ → Start
start_of s entry given =
    if is_running s entry.core then (if is_interrupted (latched s entry.core entry.lines) entry.core then Interrupt else Execute None) else
    if is_given s entry.core given then Execute given else
    start.Idle

-- ---- entries that nothing can interrupt

-- the core of an entry runs, its lines are low and none is latched
pub record Undisturbed (s : List ℕ) (entry : Scheduled) : Type 0 where
  pub runs : word_at s entry.core mode_at ≡ running
  pub low : entry.lines ≡ 0
  pub unlatched : word_at s entry.core picsr_at ≡ 0

-- the mode of the cores that nothing can interrupt while the levels last; 4 is no mode
unfoldable pub straight_mode : List ℕ → List ℕ → ℕ
straight_mode s levels = if is_quiet s levels then running else 4
