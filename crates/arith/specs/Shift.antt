-- Shifts.
use Rattle.std.specs.Prelude.{ℕ, ◌+◌, ◌-◌, ◌*◌, ◌/◌, ◌%◌, ◌^◌}
use Rattle.std.specs.Int.Signed.{shr_z}
use Rattle.bits.specs.Word.{signed, word}

-- One instruction: "Shifts use the low five bits of rB", that is n % 32
abbrev pub shift_left : ℕ → ℕ → ℕ
shift_left x n = x * 2 ^ (n % 32) % 2 ^ 32

abbrev pub shift_right : ℕ → ℕ → ℕ
shift_right x n = x / 2 ^ (n % 32)

-- l.sra (document 000): the signed number over a power of 2, rounded down
unfoldable pub shift_right_signed : ℕ → ℕ → ℕ
shift_right_signed x n = word (shr_z (signed 32 x) (2 ^ (n % 32)))

-- l.ror, of which neither document 000 nor 001 has a page: rotation to the right, as the name says (docs/DECISIONS.md, 15): the bits that go out at
-- the low end come in at the top
unfoldable pub rotate_right : ℕ → ℕ → ℕ
rotate_right x n = x % 2 ^ (n % 32) * 2 ^ (32 - n % 32) + x / 2 ^ (n % 32)

-- l.movhi (document 000): k in the upper half
abbrev pub high_half : ℕ → ℕ
high_half k = k * 2 ^ 16 % 2 ^ 32
