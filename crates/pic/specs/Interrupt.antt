-- Interrupts: document 02, note 4, "Lamp changes reach the cores as interrupts, in the latched manner of document 001."
use Rattle.std.specs.Prelude.{Bool, ◌&&◌, not, List, ℕ, eqb}
use Rattle.std.specs.Int.Bits.{bit_and, bit_or}
use Rattle.isa.specs.declared.vectors.Cause.TheVariants.{Interrupt}
use Rattle.arith.specs.Bit.{is_set}
use Rattle.arith.specs.Status.{IEE}
use Rattle.effect.specs.State.{delay_at, sr_at, eear_at, picmr_at, picsr_at}
use Rattle.effect.specs.Effect.{faults}
use Rattle.effect.specs.declared.types.Effect.{Effect}
use Rattle.commit.specs.Commit.{word_at, put, inputs, no_fields}

-- "PICSR first gains the bits of lines and PICMR together." A bit of PICSR stays until a write clears it.
unfoldable pub latched : List ℕ → ℕ → ℕ → List ℕ
latched s core lines = put s core picsr_at (bit_or (word_at s core picsr_at) (bit_and lines (word_at s core picmr_at)))

-- "If PICSR is then not 0, IEE is 1 and no delay slot is pending"
unfoldable pub is_interrupted : List ℕ → ℕ → Bool
is_interrupted s core = not (eqb (word_at s core picsr_at) 0) && (is_set IEE (word_at s core sr_at) && eqb (word_at s core delay_at) 0)

-- ".. the step takes vector 800 in place of a fetch, with EPCR = PC and EEAR kept" (800 in the old list; by note 6 the list's vector of interrupts)
abbrev pub interruption : List ℕ → ℕ → Effect
interruption s core = faults (inputs s core no_fields) Interrupt (word_at s core eear_at)
