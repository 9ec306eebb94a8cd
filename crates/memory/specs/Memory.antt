-- Memory is a list of bytes, the first at address 0. An access is to the n bytes from the address `at` on.
use Rattle.std.specs.Prelude.{List, Result, Ok, Err, ⊤, ℕ, zero, suc, ◌+◌, ◌*◌, ◌/◌, ◌%◌, ◌^◌, get_or, set, ltb, if◌then◌else◌}
use Rattle.std.proofs.Math.Option.{Option, none, some}
use Rattle.isa.specs.declared.vectors.Cause.{Cause}
use Rattle.isa.specs.declared.vectors.Cause.TheVariants.{Bus, Alignment}
use Rattle.memory.specs.declared.Width.{Width}
use Rattle.memory.specs.declared.Width.TheVariants.{Byte, Half, Word}

-- how many bytes an access is to, by its width. One instruction: "words 4, halves 2"; a byte is 1
abbrev pub bytes : Width → ℕ
bytes Byte = 1
bytes Half = 2
bytes Word = 4

-- What is lent: "from address 0, high byte first". The number that n bytes stand for: its digits in base 256 are the bytes,
-- the highest at the lowest address. (Past the end of memory 0 is read; no access that is granted gets there)
unfoldable pub loaded : ℕ → List ℕ → ℕ → ℕ
loaded zero mem at = 0
loaded (suc n) mem at = get_or mem at 0 * 256 ^ n + loaded n mem (at + 1)

-- memory after the low n bytes of v are stored in the same order: each becomes a digit of v, and every other byte stays
unfoldable pub stored : ℕ → List ℕ → ℕ → ℕ → List ℕ
stored zero mem at v = mem
stored (suc n) mem at v = set (stored n mem (at + 1) v) at (v / 256 ^ n % 256)

-- What is lent: "one 64-bit entry for each memory word". Word number k, which a fetch reads at address 4 * k
abbrev pub memory_word : List ℕ → ℕ → ℕ
memory_word mem k = loaded 4 mem (4 * k)

-- Document 02, note 5: "a limit in bytes, 0 for none": the address where the read-only start of memory ends
abbrev pub no_limit : ℕ
no_limit = 0

-- One instruction: "Loads, stores and p.*: alignment first (words 4, halves 2), then bus error if any byte is outside." Document 02, note 5: "Any
-- store or l.swa reaching below it raises bus error after alignment": its lowest byte, the one at `at`, is below the limit, which is the run's for
-- stores and l.swa, and no_limit for loads, l.lwa and p.*. The cause of the exception that an access to a memory of len bytes raises, if it raises
-- one; its vector is the run's. The sum is exact: an access past the highest address does not go on at address 0
unfoldable pub access : ℕ → ℕ → ℕ → ℕ → Option Cause
access n limit len at =
    if ltb 0 (at % n) then some Alignment else
    (if ltb at limit then some Bus else
    (if ltb len (at + n) then some Bus else none))

-- the same of the code's answer
abbrev pub cause_of : Result ⊤ Cause → Option Cause
cause_of (Ok x) = none
cause_of (Err cause) = some cause
