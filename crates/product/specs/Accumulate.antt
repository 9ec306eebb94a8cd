-- MACHI and MACLO: document 02, note 2.
use Rattle.std.specs.Prelude.{ℕ, ◌+◌, ◌*◌, ◌/◌, ◌%◌, ◌^◌, ℤ, pos, ◌+ℤ◌, ◌-ℤ◌}
use Rattle.bits.specs.Word.{signed, modulo}
use Rattle.product.specs.Product.{product}
use Rattle.product.specs.declared.Accumulator.{Accumulator}

-- both as one number, MACHI above MACLO: document 001, l.maci, "temp1[63:32] ← MACHI[31:0]"
abbrev pub number : Accumulator → ℕ
number m = m.high * 2 ^ 32 + m.low

-- a number in both, "modulo 2^64"
abbrev pub holding : ℤ → Accumulator
holding z = record { high = modulo 64 z / 2 ^ 32; low = modulo 64 z % 2 ^ 32 }

-- "The accumulating kinds truncate the product to 32 bits, sign-extend it ..
abbrev pub term : ℕ → ℕ → ℤ
term a b = signed 32 (product a b).value

-- .. and add it to,
unfoldable pub added : Accumulator → ℕ → ℕ → Accumulator
added m a b = holding (pos (number m) +ℤ term a b)

-- or for msb subtract it from, MACHI and MACLO, modulo 2^64"
unfoldable pub subtracted : Accumulator → ℕ → ℕ → Accumulator
subtracted m a b = holding (pos (number m) -ℤ term a b)

-- "macrc .. clears both."
abbrev pub cleared : Accumulator
cleared = record { high = 0; low = 0 }
