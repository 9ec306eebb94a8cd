-- Numbers as document 01 writes them. Assumes nothing.
use mathlib.Core.Path.{◌≡◌, refl}
use mathlib.Core.List.{List, [], ◌∷◌}
use Prim.Native.Nat.{ℕ}
use Rattle.text.specs.Ascii.{ascii}
use Rattle.print.specs.Digits.{digits, seek, least_from, decimal_places, decimal, hexadecimal}

examples :
    ◌≡◌ {A = List (List ℕ)}
    (decimal 0 ∷ decimal 9 ∷ decimal 10 ∷ decimal 65536 ∷ decimal 4294967295 ∷ hexadecimal 32769 ∷ hexadecimal 2882400018 ∷ [])
    (ascii "0" ∷ ascii "9" ∷ ascii "10" ∷ ascii "65536" ∷ ascii "4294967295" ∷ ascii "00008001" ∷ ascii "abcdef12" ∷ [])
unfolding decimal decimal_places least_from seek hexadecimal digits
examples = refl
