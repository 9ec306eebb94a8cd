-- A run's answer and what it leaves of all that is lent, for every input: document 01, "Turned back", and demand 3.
use Rattle.std.specs.Prelude.{List, [], ◌≡◌, ℕ, ◌+◌, ◌*◌, ◌^◌, eqb, if◌then◌else◌, Result, Ok, Err}
use Rattle.refusal.specs.Lent.{Lent, Left, board_of}
use Rattle.refusal.specs.Refusal.{max_schedule, plain_refusal, fast_refusal, refusal_number}
use Rattle.refusal.specs.declared.cause.Refusal.{Refusal}
use Rattle.steps.specs.Counts.{no_counts, AtMost}
use Rattle.steps.specs.Plain.{plain_of}
use Rattle.steps.specs.History.{entries_from}
use Rattle.steps.specs.declared.counts.Counts.{Counts}
use Rattle.linked.specs.Run.{start, plain_run, history}

-- ---- the answer

-- what was counted, or why the run was refused
abbrev pub Answer : Type 0
Answer = Result Counts Refusal

-- the refusal's number; 0 is none
abbrev pub number : Answer → ℕ
number (Ok n) = 0
number (Err cause) = refusal_number cause

-- the three counts; "counts are then 0"
abbrev pub counts_of : Answer → Counts
counts_of (Ok n) = n
counts_of (Err cause) = no_counts

-- the answer as one number for a C host: bits 63-60 the refusal's number, 59-40 reused, 39-20 raised, 19-0 executed
abbrev pub packed_answer : Answer → ℕ
packed_answer a = number a * 2 ^ 60 + (counts_of a).reused * 2 ^ 40 + (counts_of a).raised * 2 ^ 20 + (counts_of a).executed

-- ---- what is left

-- a where nothing is refused; b where something is: "counts are then 0. .. Nothing lent is written."
abbrev pub unless_refused : {A : Type 0} → ℕ → A → A → A
unless_refused refusal a b = if eqb refusal 0 then a else b

-- the plain run of l answers r and leaves x; "reused (0 in the plain run)"
pub record PlainAnswer (l : Lent) (x : Left) (r : Answer) : Type 0 where
  pub refusal : number r ≡ plain_refusal l
  pub left : plain_of x (counts_of r) ≡ unless_refused (plain_refusal l) (plain_run l) (start l)
  pub none_reused : (counts_of r).reused ≡ 0
  pub small : AtMost max_schedule (counts_of r)

-- "After the fast run a held word's entry is the form of what memory now holds there, any other 0"
unfoldable pub cache_left : Lent → List ℕ → List ℕ
cache_left l cache = entries_from (board_of l) 0 (plain_run l).memory (history l cache).cached

-- what l left is lent again at the same limit and with the same vectors, with an empty schedule and no levels, which meet none of 4, 5 and 11
abbrev pub again : Lent → Left → Lent
again l x = record { memory = x.memory; states = x.states; schedule = []; levels = []; limit = l.limit; vectors = l.vectors }

-- The fast run of l and cache answers r and leaves x and cache'. Demand 3: "both end with the same memory, the same sheets, the same count of
-- instructions executed and the same count of exceptions raised"; "Afterwards each entry of the table and the reused count are exactly what
-- document 01's history says, and the table is accepted again with that memory and those sheets." ("accepted again: the memory, sheets and
-- table left meet none that concerns them") Document 02, note 2: "A run through the table matches the plain one over all 88 kinds."
-- Note 4: "Two runs compared for the table get the same levels"; note 5: "Plain and table runs are compared at one and the same limit"; of the vectors, document
-- 01: "both runs get equal memory, sheets and schedule, and the same of anything else that both take". Note 8: "plain and table runs stay indistinguishable with
-- links allowed" (links: cores in mode 1)
pub record FastAnswer (l : Lent) (cache : List ℕ) (x : Left) (cache' : List ℕ) (r : Answer) : Type 0 where
  pub refusal : number r ≡ fast_refusal l cache
  pub left : plain_of x (counts_of r) ≡ unless_refused (fast_refusal l cache) (plain_run l) (start l)
  pub cache_left_lem : cache' ≡ unless_refused (fast_refusal l cache) (cache_left l cache) cache
  pub reused_count : (counts_of r).reused ≡ unless_refused (fast_refusal l cache) (history l cache).reused 0
  pub small : AtMost max_schedule (counts_of r)
  pub accepted_again : fast_refusal l cache ≡ 0 → fast_refusal (again l x) cache' ≡ 0
