-- The encoder's answer: document 01, "Words and kinds", and refusal 8, "no 32-bit word decodes to the entry".
use Rattle.std.specs.Prelude.{◌≡◌, ℕ, ◌^◌, ◌<◌, eqb, if◌then◌else◌, Option, Some, None}
use Rattle.isa.specs.InstructionSet.{decode, candidate}

-- the number of an answer among the refusals; 0 is none
abbrev pub refusal : Option ℕ → ℕ
refusal (Some w) = 0
refusal None = 8

-- an answer as a plain 64-bit number: "there the value 2^32 stands for refusal 8"
abbrev pub number : Option ℕ → ℕ
number (Some w) = w
number None = 2 ^ 32

unfoldable pub encode : ℕ → Option ℕ
encode e = if eqb (decode (candidate e)) e then Some (candidate e) else None

-- what the encoder promises of its answer to e: it is the definition's; an answer that is no refusal is a word that decodes to e; refusal 8 comes
-- only where no word does
pub record Encodes (e : ℕ) (r : Option ℕ) : Type 0 where
  pub exact : r ≡ encode e
  pub sound : refusal r ≡ 0 → (number r < 2 ^ 32) × (decode (number r) ≡ e)
  pub complete : refusal r ≡ 8 → (w : ℕ) → w < 2 ^ 32 → decode w ≡ e → ⊥
