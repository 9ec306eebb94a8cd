-- What the two writers answer, and what they leave in the bytes that the caller lends.
use Rattle.std.specs.Prelude.{Result, Ok, Err, List, ◌++◌, ℕ, ◌+◌, ◌*◌, ltb, length, drop, if◌then◌else◌}
use Rattle.report.specs.Result.{registers}
use Rattle.report.specs.declared.TooSmall.{TooSmall}

-- a text is written at the start of the caller's bytes, and the answer is its length. If they have not the room for the longest such text, nothing
-- is written, and the answer says so
unfoldable pub answer : ℕ → List ℕ → List ℕ → Result ℕ TooSmall
answer room text out = if ltb (length out) room then Err (record {}) else Ok (length text)

unfoldable pub written : ℕ → List ℕ → List ℕ → List ℕ
written room text out = if ltb (length out) room then out else text ++ drop (length text) out

-- the room for the counts, of 10 digits each
abbrev pub counts_room : ℕ
counts_room = 56

-- for a core: its line, with 20 digits for its number and 10 for its mode and delay; and its registers
abbrev pub core_room : ℕ
core_room = 83 + registers * 13

-- for the result of n cores: also `end` and its line feed
abbrev pub result_room : ℕ → ℕ
result_room n = counts_room + n * core_room + 4

-- for a refusal, of two numbers of 10 digits
abbrev pub refusal_room : ℕ
refusal_room = 35
