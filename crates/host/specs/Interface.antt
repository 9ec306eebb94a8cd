-- What a caller in another language is promised, in plain numbers and what it lends.
use Rattle.std.specs.Prelude.{List, ◌≡◌, ℕ, ◌/◌, ◌%◌, ◌^◌, ◌<◌, ◌≤◌}
use Rattle.isa.specs.InstructionSet.{decode}
use Rattle.codec.specs.Encoding.{encode, number}
use Rattle.refusal.specs.Lent.{Lent, Left}
use Rattle.steps.specs.declared.counts.Counts.{Counts}
use Rattle.engine.specs.Answer.{Answer, number as refusal_in, counts_of, packed_answer, PlainAnswer, FastAnswer}

-- ---- words and entries

-- Document 01, "Words and kinds": "there the value 2^32 stands for refusal 8". What or1k_encode promises of its answer r to the entry e: it is
-- the definition's; it is a word or 2^32; a word decodes to e; 2^32 comes only where no word does
pub record Answers (e r : ℕ) : Type 0 where
  pub exact : r ≡ number (encode e)
  pub range : r ≤ 2 ^ 32
  pub sound : r < 2 ^ 32 → decode r ≡ e
  pub complete : r ≡ 2 ^ 32 → (w : ℕ) → w < 2 ^ 32 → decode w ≡ e → ⊥

-- ---- runs

-- what a caller takes a run's number r apart into (include/or1k.h, or1k_refusal to or1k_reused): bits 63-60, and the three counts
abbrev pub unpacked_refusal : ℕ → ℕ
unpacked_refusal r = r / 2 ^ 60

abbrev pub unpacked_counts : ℕ → Counts
unpacked_counts r = record { executed = r % 2 ^ 20; raised = r / 2 ^ 20 % 2 ^ 20; reused = r / 2 ^ 40 % 2 ^ 20 }

-- r is the answer as one number, and its four parts are the answer's: packing loses nothing
pub record Packs (answer : Answer) (r : ℕ) : Type 0 where
  pub exact : r ≡ packed_answer answer
  pub refusal : unpacked_refusal r ≡ refusal_in answer
  pub counts : unpacked_counts r ≡ counts_of answer

-- What or1k_plain_run promises of its number r and of what it leaves: all that the plain run promises of its answer (crate engine,
-- PlainAnswer), which r packs. The answer's refusal and counts are r's four parts, so r and every lent byte are settled, refused or not.
pub record PlainRun (l : Lent) (x : Left) (r : ℕ) : Type 0 where
  pub answer : Answer
  pub packs : Packs answer r
  pub promise : PlainAnswer l x answer

-- the same of or1k_fast_run (crate engine, FastAnswer)
pub record FastRun (l : Lent) (cache : List ℕ) (x : Left) (cache' : List ℕ) (r : ℕ) : Type 0 where
  pub answer : Answer
  pub packs : Packs answer r
  pub promise : FastAnswer l cache x cache' answer
