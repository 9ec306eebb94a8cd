-- Numbers as text: document 01, "The run card".
use Rattle.std.specs.Prelude.{ℕ, ◌+◌, ◌*◌, Bool, ◌&&◌, not, List, [], ◌∷◌, length, get_or, Option, Some, None, eqb, ltb, leb, if◌then◌else◌}
use Rattle.text.specs.Digits.{glyph, digit}

abbrev pub within : ℕ → ℕ → ℕ → Bool
within low high v = leb low v && leb v high

-- the number whose digits in a base follow on v; nothing but digits may follow
abbrev pub number : ℕ → ℕ → List ℕ → Option ℕ
number base v [] = Some v
number base v (b ∷ t) = if ltb (digit b) base then number base (v * base + digit b) t else None

abbrev pub needless_zero : List ℕ → Bool
needless_zero t = ltb 1 (length t) && eqb (get_or t 0 0) (glyph 0)

-- "at most seven decimal digits and no needless zero"
abbrev pub decimal : List ℕ → Option ℕ
decimal t = if within 1 7 (length t) && not (needless_zero t) then number 10 0 t else None

-- "eight lower-case hexadecimal digits"
abbrev pub hexadecimal : List ℕ → Option ℕ
hexadecimal t = if eqb (length t) 8 then number 16 0 t else None
