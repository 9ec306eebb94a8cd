-- A law of lists that the kit has not. Assumes nothing.
use Rattle.std.proofs.Common.{◌≡◌, ℕ, ◌+◌, List, [], ◌∷◌, ◌++◌, length, set, ap, suc-add, zero-add}

-- a store behind the first of two lists
pub set_append_add : (xs ys : List ℕ) (i v : ℕ) → set (xs ++ ys) (length xs + i) v ≡ xs ++ set ys i v
set_append_add [] ys i v = rw zero-add
set_append_add (x ∷ xs) ys i v = rw suc-add (ap (λ l. x ∷ l) (set_append_add xs ys i v))
