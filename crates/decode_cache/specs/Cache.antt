-- The entries of the decode cache, the paper's table: document 01, "What is lent" and "Fast run".
use Rattle.std.specs.Prelude.{Bool, not, List, ℕ, eqb, get_or, if◌then◌else◌}
use Rattle.isa.specs.InstructionSet.{decode}
use Rattle.memory.specs.Memory.{memory_word}
use Rattle.effect.specs.Board.{Board}

-- the form of what memory holds at word k, on a board (every board has the same forms)
unfoldable pub form_at : Board → List ℕ → ℕ → ℕ
form_at board mem k = decode (memory_word mem k)

-- "0 is empty": whether an entry is filled, and 1 for a filled one
abbrev pub is_filled : ℕ → Bool
is_filled entry = not (eqb entry 0)

abbrev pub filled : ℕ → ℕ
filled entry = if is_filled entry then 1 else 0

-- "The step under the fast run executes a filled entry as it stands and not its word: for every entry that some word decodes to, its outcome is
-- that form's, also where memory holds another word there." The law is entry-as-it-stands (steps/proofs/Agree.antt).
abbrev pub cached_form : Board → List ℕ → List ℕ → ℕ → ℕ
cached_form board mem cache k = if eqb (get_or cache k 0) 0 then form_at board mem k else get_or cache k 0
