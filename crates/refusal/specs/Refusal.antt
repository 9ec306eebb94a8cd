-- What a run refuses (the paper's "turned back"): document 01, "What is lent" and "Turned back"; document 02, notes 4 to 6 and 8. The rules on a list of
-- vectors stand in vector_list/specs/Rules.
use Rattle.std.specs.Prelude.{Bool, true, ◌&&◌, ◌||◌, List, [], ◌∷◌, ◌++◌, ℕ, ◌+◌, ◌/◌, ◌%◌, eqb, leb, ltb, length, if◌then◌else◌, Result, Ok, Err}
use Rattle.bits.specs.Every.{every_below}
use Rattle.vector_list.specs.Rules.{vectors_fit}
use Rattle.effect.specs.State.{state_words}
use Rattle.effect.specs.Board.{Board}
use Rattle.commit.specs.Commit.{core_count}
use Rattle.decode_cache.specs.Cache.{form_at}
use Rattle.lawful.specs.Accepted.{accepted}
use Rattle.refusal.specs.Lent.{Lent, board_of}
use Rattle.refusal.specs.declared.cause.Refusal.{Refusal}
use Rattle.refusal.specs.declared.cause.Refusal.TheVariants.{MemoryLength, StatesLength, StateRule, ScheduleLength, NoSuchCore, LevelsLength, ReadOnlyLimit, VectorList, CacheLength, CacheEntry}

-- f passes at every element of a list and its place, counted from i
unfoldable pub every_from : (ℕ → ℕ → Bool) → ℕ → List ℕ → Bool
every_from f i [] = true
every_from f i (x ∷ l) = f i x && every_from f (i + 1) l

-- "Memory: 4,096 to 1,048,576 bytes, a multiple of 4"; len is its length
unfoldable pub memory_fits : ℕ → Bool
memory_fits len = leb 4096 len && (leb len 1048576 && eqb (len % 4) 0)

-- "32-bit words for each of 1 to 4 cores." Document 02, note 4: "46 words in all".
unfoldable pub states_fit : ℕ → Bool
states_fit len = eqb (len % state_words) 0 && (leb 1 (len / state_words) && leb (len / state_words) 4)

-- "r0 is 0; PC, target, .." on every core's
unfoldable pub states_obey : Board → List ℕ → Bool
states_obey board s = every_below (core_count s) (accepted board s)

-- "Schedule: up to 65,536 bytes, each a core number."
abbrev pub max_schedule : ℕ
max_schedule = 65536

unfoldable pub schedule_fits : ℕ → Bool
schedule_fits len = leb len max_schedule

unfoldable pub names_cores : ℕ → List ℕ → Bool
names_cores cores schedule = every_from (λ i core. ltb core cores) 0 schedule

-- Document 02, note 4: "a level list whose length is not the schedule's" is turned back
unfoldable pub levels_fit : ℕ → ℕ → Bool
levels_fit schedule levels = eqb levels schedule

-- Document 02, note 5: "a limit that is no multiple of 4 or exceeds memory" is turned back; memory is its length, which the limit may be
unfoldable pub limit_fits : ℕ → ℕ → Bool
limit_fits memory limit = eqb (limit % 4) 0 && leb limit memory

-- "Table (fast run only): one 64-bit entry for each memory word."
unfoldable pub cache_fits : ℕ → ℕ → Bool
cache_fits memory cache = eqb cache (memory / 4)

-- "0 is empty."; 7: "a filled entry is not its word's form"
abbrev pub entry_right : Board → List ℕ → ℕ → ℕ → Bool
entry_right board mem k entry = eqb entry 0 || eqb entry (form_at board mem k)

unfoldable pub entries_right : Board → List ℕ → List ℕ → Bool
entries_right board mem cache = every_from (entry_right board mem) 0 cache

-- a rule: the number of its refusal, and whether what is lent passes
pub record Rule : Type 0 where
  pub number : ℕ
  pub passes : Bool

abbrev pub rule : ℕ → Bool → Rule
rule number passes = record { number = number; passes = passes }

-- "Runs test 1 to 7 in this order"; document 02, note 4: "with 11, after 5"; note 5: "with 12, after 11"; note 6: "a run handed a list that breaks
-- these rules refuses with 13 too, after 12": the rules of both runs, and those on the decode cache, in the order tested
abbrev pub run_rules : Lent → List Rule
run_rules l =
    rule 1 (memory_fits (length l.memory)) ∷
    rule 2 (states_fit (length l.states)) ∷
    rule 3 (states_obey (board_of l) l.states) ∷
    rule 4 (schedule_fits (length l.schedule)) ∷
    rule 5 (names_cores (core_count l.states) l.schedule) ∷
    rule 11 (levels_fit (length l.schedule) (length l.levels)) ∷
    rule 12 (limit_fits (length l.memory) l.limit) ∷
    rule 13 (vectors_fit l.vectors) ∷
    []

abbrev pub cache_rules : Board → List ℕ → List ℕ → List Rule
cache_rules board mem cache =
    rule 6 (cache_fits (length mem) (length cache)) ∷
    rule 7 (entries_right board mem cache) ∷
    []

-- the number of the first rule that is broken; 0 if none is
unfoldable pub first_broken : List Rule → ℕ
first_broken [] = 0
first_broken (r ∷ more) = if r.passes then first_broken more else r.number

unfoldable pub plain_refusal : Lent → ℕ
plain_refusal l = first_broken (run_rules l)

unfoldable pub fast_refusal : Lent → List ℕ → ℕ
fast_refusal l cache = first_broken (run_rules l ++ cache_rules (board_of l) l.memory cache)

-- the paper's number of each cause
abbrev pub refusal_number : Refusal → ℕ
refusal_number MemoryLength = 1
refusal_number StatesLength = 2
refusal_number StateRule = 3
refusal_number ScheduleLength = 4
refusal_number NoSuchCore = 5
refusal_number LevelsLength = 11
refusal_number ReadOnlyLimit = 12
refusal_number VectorList = 13
refusal_number CacheLength = 6
refusal_number CacheEntry = 7

-- the number of what the tests find; 0 is none
abbrev pub verdict_number : Result (Unit {0}) Refusal → ℕ
verdict_number (Ok _) = 0
verdict_number (Err cause) = refusal_number cause
