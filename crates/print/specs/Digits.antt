-- Numbers as text: document 01, "The run card", "eight lower-case hexadecimal digits; other numbers at most seven decimal digits and no
-- needless zero". A text is the list of its characters' codes.
use Rattle.std.specs.Prelude.{Bool, true, false, List, [], ◌∷◌, ◌++◌, ℕ, zero, suc, ◌/◌, ◌%◌, ◌^◌, ltb}
use Rattle.text.specs.Digits.{glyph}

-- the k lowest digits of n in a base, the highest first
unfoldable pub digits : ℕ → ℕ → ℕ → List ℕ
digits base zero n = []
digits base (suc k) n = digits base k (n / base) ++ (glyph (n % base) ∷ [])

-- the least number from k on that passes a test, sought up to k + n. `here` is the test at k: matching on it ends what is computed
unfoldable pub seek : (ℕ → Bool) → ℕ → Bool → ℕ → ℕ
seek test zero here k = k
seek test (suc n) true k = k
seek test (suc n) false k = seek test n (test (suc k)) (suc k)

unfoldable pub least_from : (ℕ → Bool) → ℕ → ℕ → ℕ
least_from test k n = seek test n (test k) k

-- how many decimal digits n has with no needless zero: the least k from 1 on with n < 10 ^ k. It is at most 1 + n
unfoldable pub decimal_places : ℕ → ℕ
decimal_places n = least_from (λ k. ltb n (10 ^ k)) 1 n

-- a number in decimal, with no needless zero
unfoldable pub decimal : ℕ → List ℕ
decimal n = digits 10 (decimal_places n) n

-- a 32-bit word, as eight lower-case hexadecimal digits
unfoldable pub hexadecimal : ℕ → List ℕ
hexadecimal n = digits 16 8 n
