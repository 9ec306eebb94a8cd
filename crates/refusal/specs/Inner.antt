-- What the parts of the tests promise one another. Nothing here is document 01's: Refusal has that.
use Rattle.std.specs.Prelude.{Bool, ◌||◌, not, ℕ, eqb}

-- one of the rules on a state
abbrev pub unset_is_zero : ℕ → ℕ → Bool
unset_is_zero flag value = not (eqb flag 0) || eqb value 0
