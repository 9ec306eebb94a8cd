-- Sums and differences.
use Rattle.std.specs.Prelude.{ℕ, ◌+◌, ◌%◌, ◌^◌, Bool, not, ◌&&◌, ℤ, pos, ◌+ℤ◌, ◌-ℤ◌, neg_ℤ, int_le, int_lt, nat_le, nat_lt}
use Rattle.bits.specs.Word.{bit, signed, word}
use Rattle.arith.specs.declared.Flagged.{Flagged}

-- 32 bits hold the signed number z: from - 2 ^ 31 up to below 2 ^ 31
unfoldable pub fits : ℤ → Bool
fits z = int_le (neg_ℤ (pos (2 ^ 31))) z && int_lt z (pos (2 ^ 31))

-- One instruction: "Sums and differences keep the low 32 bits. CY is the unsigned carry or, for sub, borrow; OV means that the exact signed
-- result does not fit".
-- a + b + c, where c is a carry
unfoldable pub sum : ℕ → ℕ → Bool → Flagged
sum a b c = record {
  value = (a + b + bit c) % 2 ^ 32;
  carry = nat_le (2 ^ 32) (a + b + bit c);
  overflow = not (fits (signed 32 a +ℤ signed 32 b +ℤ pos (bit c)));
}

-- a - b
unfoldable pub difference : ℕ → ℕ → Flagged
difference a b = record {
  value = word (pos a -ℤ pos b);
  carry = nat_lt a b;
  overflow = not (fits (signed 32 a -ℤ signed 32 b));
}

-- One instruction, vectors: "All address sums wrap"
abbrev pub address_sum : ℕ → ℕ → ℕ
address_sum a b = (a + b) % 2 ^ 32

unfoldable pub address_difference : ℕ → ℕ → ℕ
address_difference a b = word (pos a -ℤ pos b)
