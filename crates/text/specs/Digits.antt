-- Digits as characters: document 01, "The run card", "eight lower-case hexadecimal digits; other numbers at most seven decimal digits".
use Rattle.std.specs.Prelude.{ℕ, zero, suc, ◌+◌, ltb, eqb, if◌then◌else◌}

-- the character of the digit d, below 16: 0 to 9, then a to f
abbrev pub glyph : ℕ → ℕ
glyph d = if ltb d 10 then 48 + d else 87 + d

-- the digit among the first n whose character is b; 16 if there is none
abbrev pub digit_below : ℕ → ℕ → ℕ
digit_below zero b = 16
digit_below (suc n) b = if eqb b (glyph n) then n else digit_below n b

-- the digit that a byte is the character of; 16 if it is none
unfoldable pub digit : ℕ → ℕ
digit b = digit_below 16 b
