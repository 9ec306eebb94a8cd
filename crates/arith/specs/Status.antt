-- The bits of SR and ESR, and what is written to SR, ESR and EPCR.
use Rattle.std.specs.Prelude.{ℕ, ◌+◌, ◌*◌, ◌/◌, ◌^◌, Bool, true, false, List, [], ◌∷◌}
use Rattle.bits.specs.Word.{bit_at}
use Rattle.arith.specs.Bit.{set_bit}

-- What is lent: "SR and ESR may have bits SM 0, TEE 1, IEE 2, F 9, CY 10, OV 11, OVE 12, DSX 13; bit 15 is 1, all others 0"
abbrev pub SM : ℕ
SM = 0

abbrev pub TEE : ℕ
TEE = 1

abbrev pub IEE : ℕ
IEE = 2

abbrev pub F : ℕ
F = 9

abbrev pub CY : ℕ
CY = 10

abbrev pub OV : ℕ
OV = 11

abbrev pub OVE : ℕ
OVE = 12

abbrev pub DSX : ℕ
DSX = 13

-- the places of the bits that may be set, beside bit 15, which always is
abbrev pub status_bits : List ℕ
status_bits = SM ∷ TEE ∷ IEE ∷ F ∷ CY ∷ OV ∷ OVE ∷ DSX ∷ []

-- x with its bits at these places only
unfoldable pub only : List ℕ → ℕ → ℕ
only [] x = 0
only (i ∷ l) x = bit_at i x * 2 ^ i + only l x

-- what a write of x to SR or ESR leaves; a word x may stand there if allowed x ≡ x.
-- One instruction: "Bits that SR or ESR may not have, .. are dropped; bit 15 stays 1"
unfoldable pub allowed : ℕ → ℕ
allowed x = 2 ^ 15 + only status_bits x

-- what a write of x to EPCR leaves.
-- One instruction: ".. and EPCR's low two, are dropped"
abbrev pub aligned : ℕ → ℕ
aligned x = x / 4 * 4

-- SR with CY and OV
abbrev pub set_carry_overflow : Bool → Bool → ℕ → ℕ
set_carry_overflow cy ov sr = set_bit OV ov (set_bit CY cy sr)

-- SR after an exception, in a delay slot or not.
-- One instruction, vectors: "ESR takes SR; then SM = 1, TEE, IEE, OVE = 0, DSX = slot"
unfoldable pub exception_sr : Bool → ℕ → ℕ
exception_sr slot sr = set_bit SM true (set_bit TEE false (set_bit IEE false (set_bit OVE false (set_bit DSX slot sr))))
