-- Compares.
use Rattle.std.specs.Prelude.{ℕ, Bool, false, not, ◌==◌, int_le, int_lt, nat_le, nat_lt, if◌then◌else◌}
use Rattle.bits.specs.Word.{signed}

-- The compare at place n of the set-flag order holds of a and b; at any other place nothing does.
-- Words and kinds: "Set-flag order, by bits 25–21: eq 0, ne 1, gtu 2, geu 3, ltu 4, leu 5, gts a, ges b, lts c, les d". The rows of the instruction
-- set have these bits, in this order.
-- One instruction: "Signed compares read 80000000 as the least number"
unfoldable pub holds : ℕ → ℕ → ℕ → Bool
holds n a b =
    if n == 0 then (a == b) else  -- eq
    if n == 1 then not (a == b) else  -- ne
    if n == 2 then nat_lt b a else  -- gtu
    if n == 3 then nat_le b a else  -- geu
    if n == 4 then nat_lt a b else  -- ltu
    if n == 5 then nat_le a b else  -- leu
    if n == 6 then int_lt (signed 32 b) (signed 32 a) else  -- gts
    if n == 7 then int_le (signed 32 b) (signed 32 a) else  -- ges
    if n == 8 then int_lt (signed 32 a) (signed 32 b) else  -- lts
    if n == 9 then int_le (signed 32 a) (signed 32 b) else  -- les
    false
