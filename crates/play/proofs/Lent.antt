-- What a good card's run is lent: the first parts of five arrays, at limit 0, and the vectors. Assumes nothing.
use mathlib.Core.Path.{◌≡◌, ap, ◌∙◌}
use mathlib.Core.List.{List}
use Prim.Native.Nat.{ℕ, ◌*◌, ◌/◌, ◌≤◌}
use native.Mathlib.Omega.{arith}
use lib.Dec.{T}
use lib.ListN.{length, take, replicate}
use lib.Seq.{sets}
use Rattle.vector_list.specs.Rules.{vectors_fit}
use Rattle.effect.specs.State.{state_words}
use Rattle.text.proofs.Stores.{take_sets}
use Rattle.refusal.specs.Lent.{Lent, lent}
use Rattle.refusal.specs.Refusal.{fast_refusal}
use Rattle.card.specs.Card.{max_steps}
use Rattle.card.specs.Answer.{job_at, schedule_at}
use Rattle.card.specs.declared.Job.{Job}
use Rattle.card.proofs.Bounds.{says_sound}
use Rattle.job.specs.Job.{image_length, memory_of, entries, reset_states}
use Rattle.job.proofs.Laws.{length_states, length_entries}
use Rattle.play.specs.Output.{states_of, schedule_of, levels_of, empty_cache, lent_by, run_text, job_text}
use Rattle.play.specs.Inner.{Ready}
use Rattle.play.proofs.Parts.{take_replicate}
use Rattle.play.proofs.Accepted.{job_accepted}

-- how many words the largest memory has
abbrev pub cache_words : ℕ
cache_words = image_length / 4

module _ (vectors : List ℕ) (f : T (vectors_fit vectors)) (card : List ℕ) (j : Job) (image s₀ s t₀ t : List ℕ) (r : Ready card j image)
    (hs : j.cores * state_words ≤ length s₀) (es : s ≡ sets s₀ 0 (reset_states j.entry j.sr j.cores))
    (ht : j.steps ≤ length t₀) (et : t ≡ sets t₀ 0 (entries (schedule_at card j) j.steps)) where
  memory_part : take j.memory image ≡ memory_of (job_at card j)
  memory_part = r.laid_out

  states_part : take (j.cores * state_words) s ≡ states_of (job_at card j)
  states_part =
      let n = length_states j.entry j.sr j.cores in
      ap (take (j.cores * state_words)) es ∙ take_sets s₀ (states_of (job_at card j)) (omega arith) (j.cores * state_words) n

  schedule_part : take j.steps t ≡ schedule_of (job_at card j)
  schedule_part =
      let n = length_entries (schedule_at card j) j.steps in
      ap (take j.steps) et ∙ take_sets t₀ (schedule_of (job_at card j)) (omega arith) j.steps n

  levels_part : take j.steps (replicate max_steps 0) ≡ levels_of (job_at card j)
  levels_part = take_replicate j.steps max_steps 0 (let b = r.bounds.sound.steps_high in omega arith)

  cache_part : take (j.memory / 4) (replicate cache_words 0) ≡ empty_cache (job_at card j)
  cache_part = take_replicate (j.memory / 4) cache_words 0 (let b = r.bounds.sound.memory_high in omega arith)

  -- what the run is lent
  abbrev parts : Lent
  parts = lent (take j.memory image) (take (j.cores * state_words) s) (take j.steps t) (take j.steps (replicate max_steps 0)) 0 vectors

  abbrev cache : List ℕ
  cache = take (j.memory / 4) (replicate cache_words 0)

  -- a run of these parts is the job's
  as_lent : {A : Type 0} (g : Lent → List ℕ → A) → g parts cache ≡ g (lent_by vectors (job_at card j)) (empty_cache (job_at card j))
  as_lent g = rw (memory_part, states_part, schedule_part, levels_part, cache_part)

  pub lent_accepted : fast_refusal parts cache ≡ 0
  lent_accepted = as_lent fast_refusal ∙ job_accepted vectors f (job_at card j) (says_sound card (job_at card j) r.says)

  pub lent_text : run_text parts cache ≡ job_text vectors (job_at card j)
  unfolding job_text
  lent_text = as_lent run_text
