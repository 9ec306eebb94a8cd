-- Places in a text, for the contracts of what searches it: a place stands for the lines from it on.
use Rattle.std.specs.Prelude.{ℕ, zero, suc, ◌+◌, ◌-◌, ◌≤◌, ◌<◌, ◌≡◌, List, [], ◌∷◌, length, take, drop, Option, Some, None, eqb, if◌then◌else◌}
use Rattle.text.specs.Lines.{lines, Entry, entry, missing}
use Rattle.text.specs.declared.Found.{Found}

-- how many bytes stand before the first line feed
unfoldable pub line_length : List ℕ → ℕ
line_length [] = 0
line_length (b ∷ s) = if eqb b 10 then 0 else suc (line_length s)

-- where the line at a place ends: its line feed's place, or the text's end
abbrev pub line_end : List ℕ → ℕ → ℕ
line_end s at = at + line_length (drop at s)

-- the place after the first n lines, each with its line feed
unfoldable pub after_lines : List ℕ → ℕ → ℕ
after_lines s zero = 0
after_lines s (suc n) = line_end s (after_lines s n) + 1

-- what was found: an entry's text stands from one place to another, where its line feed is
abbrev pub found_in : List ℕ → Option Found → Entry
found_in s (Some r) = entry (take (r.end - r.start) (drop r.start s)) (lines (drop (r.end + 1) s))
found_in s None = missing

-- it stands on the line at a place, after the key
abbrev pub Inside : List ℕ → List ℕ → ℕ → Option Found → Type 0
Inside key s at (Some r) = (r.start ≡ at + length key) × (r.end ≡ line_end s at) × (r.start ≤ r.end) × (r.end < length s)
Inside key s at None = Unit
