-- The output of the runner: document 01, "The run card", "The runner reads a card on standard input, makes a fast run from an empty table and
-- prints counts, a line for each core, .."; document 02, note 6, on the file of vectors that it reads before the card.
use Rattle.std.specs.Prelude.{List, ℕ, ◌/◌, replicate}
use Rattle.refusal.specs.Lent.{Lent, lent}
use Rattle.linked.specs.Run.{plain_run, history}
use Rattle.steps.specs.declared.counts.Counts.{Counts}
use Rattle.card.specs.Card.{Job, Verdict, good, refused, card_says}
use Rattle.vectors_file.specs.File.{File, vectors_say}
use Rattle.job.specs.Job.{memory_of, entries, reset_states}
use Rattle.report.specs.Result.{result_text, refusal_text}

-- all cores start at the entry, with the card's SR
abbrev pub states_of : Job → List ℕ
states_of j = reset_states j.entry j.sr j.cores

abbrev pub schedule_of : Job → List ℕ
schedule_of j = entries j.schedule j.steps

-- Document 02, note 4: "the card runner gives all lines low"
abbrev pub levels_of : Job → List ℕ
levels_of j = replicate j.steps 0

-- "an empty table", the decode cache: "one 64-bit entry for each memory word. 0 is empty."
abbrev pub empty_cache : Job → List ℕ
empty_cache j = replicate (j.memory / 4) 0

-- the fast run's counts: by demand 3 the plain run's, and the history's reused
abbrev pub run_counts : Lent → List ℕ → Counts
run_counts l cache = record { executed = (plain_run l).executed; raised = (plain_run l).raised; reused = (history l cache).reused }

unfoldable pub run_text : Lent → List ℕ → List ℕ
run_text l cache = result_text (run_counts l cache) (plain_run l).states

-- what a good card's run is lent, with the list of vectors. Document 02, note 5: "the card runner uses 0"; note 6: "Each run uses one list throughout"
abbrev pub lent_by : List ℕ → Job → Lent
lent_by vectors j = lent (memory_of j) (states_of j) (schedule_of j) (levels_of j) 0 vectors

unfoldable pub job_text : List ℕ → Job → List ℕ
job_text vectors j = run_text (lent_by vectors j) (empty_cache j)

-- the text of something read: what is printed of a good one; "a bad card prints `refused=9 line=3`"
abbrev pub verdict_text : {A : Type 0} → (A → List ℕ) → Verdict A → List ℕ
verdict_text text (good a) = text a
verdict_text text (refused number line) = refusal_text number line

-- what is printed for a card's bytes
unfoldable pub card_text : List ℕ → List ℕ → List ℕ
card_text card vectors = verdict_text (job_text vectors) (card_says card)

-- what is printed of what a file of vectors and a card say. Document 02, note 6: "It is read before the card, ..; faults are 9 and 10 and print alike."
abbrev pub output_of : Verdict (List ℕ) → Verdict Job → List ℕ
output_of vectors job = verdict_text (λ list. verdict_text (job_text list) job) vectors

-- what the runner prints for a file of vectors and a card's bytes
unfoldable pub output : File → List ℕ → List ℕ
output file card = output_of (vectors_say file) (card_says card)
