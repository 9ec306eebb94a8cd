-- The rules on a list of vectors: document 02, note 6.
use Rattle.std.specs.Prelude.{Option, Some, None, Bool, ◌&&◌, not, List, ℕ, zero, suc, ◌+◌, ◌%◌, eqb, ltb, length, get_or, if◌then◌else◌}
use Rattle.bits.specs.Every.{every_below}
use Rattle.isa.specs.Vectors.{vector_count}

-- "Addresses are multiples of 4 below 1,048,576."
abbrev pub vector_end : ℕ
vector_end = 1048576

unfoldable pub is_vector : ℕ → Bool
is_vector v = eqb (v % 4) 0 && ltb v vector_end

-- the address at place i of a list is none of those above it
unfoldable pub is_new : List ℕ → ℕ → Bool
is_new vectors i = every_below i (λ j. not (eqb (get_or vectors j 0) (get_or vectors i 0)))

-- "two equal addresses, at the first line that repeats one": the first place, of the n from i on, whose address stands above it; i + n if there is none
unfoldable pub first_repeat : List ℕ → ℕ → ℕ → ℕ
first_repeat vectors i zero = i
first_repeat vectors i (suc n) = if is_new vectors i then first_repeat vectors (i + 1) n else i

-- no two of a list's n addresses are equal
abbrev pub are_distinct : List ℕ → ℕ → Bool
are_distinct vectors n = every_below n (is_new vectors)

-- the first place of a list whose address stands above it, if there is one
unfoldable pub repeat_in : List ℕ → Option ℕ
repeat_in vectors = if are_distinct vectors (length vectors) then None else Some (first_repeat vectors 0 (length vectors))

-- a list of "seven" that keeps these rules
unfoldable pub vectors_fit : List ℕ → Bool
vectors_fit vectors =
    eqb (length vectors) vector_count && (every_below vector_count (λ i. is_vector (get_or vectors i 0)) && are_distinct vectors vector_count)
