-- What the reader's answers stand for: they hold places in the card, and a cause for each refusal.
use Rattle.std.specs.Prelude.{ℕ, zero, suc, ◌+◌, ◌/◌, ◌%◌, ◌≤◌, ◌≡◌, List, [], ◌∷◌, map, length, take, drop, T, ltb, Result, Ok, Err}
use Rattle.arith.specs.Status.{allowed}
use Rattle.text.specs.Ascii.{ascii}
use Rattle.text.specs.Digits.{digit}
use Rattle.text.specs.Lines.{Line, lines}
use Rattle.text.specs.Inner.{after_lines}
use Rattle.card.specs.Card.{Step, step, stop, first, word, Job, Verdict, good, refused, image_fault, form_fault, value_fault, repeat_fault, max_cores, min_memory, max_memory, max_steps, max_digits}
use Rattle.std.specs.List.{list_all}
use Rattle.card.specs.declared.Cause.{Cause}
use Rattle.card.specs.declared.Cause.TheVariants.{Image, Form, Limit, Repeat}
use Rattle.card.specs.declared.Job as code
use Rattle.card.specs.declared.Refused.{Refused}

-- the number of each cause
abbrev pub refusal : Cause → ℕ
refusal Image = image_fault
refusal Form = form_fault
refusal Limit = value_fault
refusal Repeat = repeat_fault

-- an answer with its cause's number
abbrev pub told : Result code.Job Refused → Verdict code.Job
told (Ok j) = good j
told (Err r) = refused (refusal r.cause) r.line

-- what comes of something good; a refusal stays
abbrev pub and_then : {A B : Type 0} → Verdict A → (A → Verdict B) → Verdict B
and_then (good a) k = k a
and_then (refused f n) k = refused f n

-- how many lines stand before the first w line, and before the schedule's
abbrev pub header_lines : ℕ
header_lines = 7

abbrev pub before_schedule : ℕ
before_schedule = 5

-- a job by its places in the card
abbrev pub placed : List ℕ → Job → code.Job
placed card j = record {
  cores = j.cores;
  memory = j.memory;
  entry = j.entry;
  sr = j.sr;
  steps = j.steps;
  schedule = after_lines card before_schedule + length (ascii "schedule=");
  digits = length j.schedule;
  words = length j.words;
  image = after_lines card header_lines;
}

-- the answer where a card says v
abbrev pub answered : List ℕ → Verdict Job → Verdict code.Job
answered card v = and_then v (λ j. good (placed card j))

-- the words of the first n lines, up to the first that is bad
abbrev pub more : Step ℕ → (List Line → List ℕ) → List ℕ
more (step w ls) rest = w ∷ rest ls
more (stop f) rest = []

unfoldable pub words_from : ℕ → List Line → List ℕ
words_from zero ls = []
words_from (suc n) ls = more (first (ascii "w=") word ls) (words_from n)

-- the digits that a job places, as core numbers, and the words of its lines
abbrev pub schedule_at : List ℕ → code.Job → List ℕ
schedule_at card j = map digit (take j.digits (drop j.schedule card))

abbrev pub words_at : List ℕ → code.Job → List ℕ
words_at card j = words_from j.words (lines (drop j.image card))

abbrev pub job : ℕ → ℕ → ℕ → ℕ → ℕ → List ℕ → List ℕ → Job
job cores memory entry sr steps schedule words = record { cores = cores; memory = memory; entry = entry; sr = sr; steps = steps; schedule = schedule; words = words }

abbrev pub job_at : List ℕ → code.Job → Job
job_at card j = job j.cores j.memory j.entry j.sr j.steps (schedule_at card j) (words_at card j)

-- what a good card's job keeps to
pub record Sound (j : Job) : Type 0 where
  pub cores_low : 1 ≤ j.cores
  pub cores_high : j.cores ≤ max_cores
  pub memory_low : min_memory ≤ j.memory
  pub memory_high : j.memory ≤ max_memory
  pub memory_multiple : j.memory % 4 ≡ 0
  pub entry_multiple : j.entry % 4 ≡ 0
  pub sr_allowed : allowed j.sr ≡ j.sr
  pub steps_high : j.steps ≤ max_steps
  pub digits_low : 1 ≤ length j.schedule
  pub digits_high : length j.schedule ≤ max_digits
  pub cores_named : T (list_all (λ d. ltb d j.cores) j.schedule)
  pub words_high : length j.words ≤ j.memory / 4

-- the same by its places, for those who run it: its digits stand in the card
pub record Bounds (card : List ℕ) (j : code.Job) : Type 0 where
  pub sound : Sound (job_at card j)
  pub digits_counted : length (schedule_at card j) ≡ j.digits
  pub digits_placed : j.schedule + j.digits ≤ length card
