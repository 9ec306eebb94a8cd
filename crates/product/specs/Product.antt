-- Products and quotients: document 02, note 2.
use Rattle.std.specs.Prelude.{ℕ, ◌*◌, ◌/◌, ◌%◌, ◌^◌, not, false, ◌*ℤ◌, int_div, nat_le}
use Rattle.bits.specs.Word.{signed, word}
use Rattle.arith.specs.Sums.{fits}
use Rattle.arith.specs.declared.Flagged.{Flagged}

-- The signed product. "Products keep the low 32 bits in rD." "Signed products set OV if the exact product does not fit, else clear it; all products set CY if the
-- unsigned product does not, else clear it."
unfoldable pub product : ℕ → ℕ → Flagged
product a b = record {
  value = word (signed 32 a *ℤ signed 32 b);
  carry = nat_le (2 ^ 32) (a * b);
  overflow = not (fits (signed 32 a *ℤ signed 32 b));
}

-- The unsigned one. "mulu and both divisions set OV to 0."
unfoldable pub product_unsigned : ℕ → ℕ → Flagged
product_unsigned a b = record {
  value = a * b % 2 ^ 32;
  carry = nat_le (2 ^ 32) (a * b);
  overflow = false;
}

-- "Division truncates toward zero." "For l.div 80000000 by ffffffff gives 80000000": 2 ^ 31, as a word (law `least_by_minus_one`). What a zero
-- divisor does stands with the operation.
unfoldable pub quotient : ℕ → ℕ → ℕ
quotient a b = word (int_div (signed 32 a) (signed 32 b))

abbrev pub quotient_unsigned : ℕ → ℕ → ℕ
quotient_unsigned a b = a / b
