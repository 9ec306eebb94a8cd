-- The places of set bits.
use Rattle.std.specs.Prelude.{ℕ, zero, suc, nat_lt, if◌then◌else◌}
use Rattle.arith.specs.Bit.{is_set}

-- the least, and the greatest, of the places 1 to n of x whose bit is set; 0 if there is none.
-- One instruction: "ff1 gives the place of the lowest set bit and fl1 of the highest, bit 0 being place 1; 0 gives 0"
unfoldable pub least : ℕ → ℕ → ℕ
least zero x = 0
least (suc n) x = if nat_lt 0 (least n x) then least n x else if is_set n x then suc n else 0

unfoldable pub greatest : ℕ → ℕ → ℕ
greatest zero x = 0
greatest (suc n) x = if is_set n x then suc n else greatest n x
