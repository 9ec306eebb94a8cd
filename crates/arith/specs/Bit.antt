-- One bit of a word.
use Rattle.std.specs.Prelude.{ℕ, suc, ◌+◌, ◌*◌, ◌/◌, ◌%◌, ◌^◌, Bool, ◌==◌}
use Rattle.bits.specs.Word.{bit, bit_at}

-- bit i of x is 1
abbrev pub is_set : ℕ → ℕ → Bool
is_set i x = bit_at i x == 1

-- x with bit i made 1 or 0: the bits above it, the bit, the bits below it
unfoldable pub set_bit : ℕ → Bool → ℕ → ℕ
set_bit i v x = x / 2 ^ suc i * 2 ^ suc i + bit v * 2 ^ i + x % 2 ^ i
