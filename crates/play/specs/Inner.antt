-- What a good card's reading hands on, and what a run does.
use Rattle.std.specs.Prelude.{Result, Ok, Err, List, ◌≡◌, ℕ, ◌≤◌, length, take}
use Rattle.card.specs.Card.{card_says, good}
use Rattle.card.specs.Answer.{refusal, job_at, Bounds}
use Rattle.card.specs.declared.Job.{Job}
use Rattle.job.specs.Job.{memory_of}
use Rattle.report.specs.Result.{result_text, refusal_text}
use Rattle.play.specs.declared.Ran.{Ran}
use Rattle.card.specs.declared.Refused.{Refused}

-- a card is good, says this job, and its memory is laid out at the start of the image
pub record Ready (card : List ℕ) (j : Job) (image : List ℕ) : Type 0 where
  pub says : card_says card ≡ good (job_at card j)
  pub bounds : Bounds card j
  pub fits : j.memory ≤ length image
  pub laid_out : take j.memory image ≡ memory_of (job_at card j)

-- what is printed of a run, or of a file or a card that is refused
abbrev pub text_of : Result Ran Refused → List ℕ
text_of (Ok ran) = result_text ran.counts ran.states.now
text_of (Err r) = refusal_text (refusal r.cause) r.line
