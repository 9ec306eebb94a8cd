-- A word's bits, and the signed numbers that they stand for. Bit 0 is the lowest.
use Rattle.std.specs.Prelude.{ℕ, ◌-◌, ◌*◌, ◌/◌, ◌%◌, ◌^◌, Bool, true, false, ℤ, pos, negsuc}
use Rattle.std.proofs.Math.IntN.{sub_ℕ}

-- the k bits of x from bit low up, as a number
abbrev pub field : ℕ → ℕ → ℕ → ℕ
field x low k = x / 2 ^ low % 2 ^ k

-- bit i of x
abbrev pub bit_at : ℕ → ℕ → ℕ
bit_at i x = x / 2 ^ i % 2

-- a test's answer as a bit
abbrev pub bit : Bool → ℕ
bit true = 1
bit false = 0

-- the k low bits of x read as a signed number: 2 ^ k less if the highest of them is set
unfoldable pub signed : ℕ → ℕ → ℤ
signed k x = sub_ℕ (x % 2 ^ k) (bit_at (k - 1) x * 2 ^ k)

-- a number modulo 2 ^ k: its k low bits, where - (n + 1) has the bits that n has not
abbrev pub modulo : ℕ → ℤ → ℕ
modulo k (pos n) = n % 2 ^ k
modulo k (negsuc n) = 2 ^ k - 1 - n % 2 ^ k

-- the 32-bit word of a number
unfoldable pub word : ℤ → ℕ
word z = modulo 32 z

-- the k low bits of x extended to a word: sign-extended, or zero-extended
unfoldable pub extend : Bool → ℕ → ℕ → ℕ
extend true k x = word (signed k x)
extend false k x = x % 2 ^ k
