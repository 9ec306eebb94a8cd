-- Lines of text: document 01, "The run card", "Key=value lines, each ended by one line feed".
use Rattle.std.specs.Prelude.{ℕ, Bool, true, false, ◌&&◌, List, [], ◌∷◌, length, drop, eqb, if◌then◌else◌}

-- a line's bytes without its line feed, or last bytes that no line feed ends
pub data Line : Type 0 where
  ended : List ℕ → Line
  cut : List ℕ → Line

-- one byte more at the front of the first line
abbrev pub onto : ℕ → List Line → List Line
onto b [] = cut (b ∷ []) ∷ []
onto b (ended l ∷ ls) = ended (b ∷ l) ∷ ls
onto b (cut l ∷ ls) = cut (b ∷ l) ∷ ls

-- the lines of a text; a line feed is 10
unfoldable pub lines : List ℕ → List Line
lines [] = []
lines (b ∷ s) = if eqb b 10 then ended [] ∷ lines s else onto b (lines s)

-- the line begins with the key
abbrev pub begins : List ℕ → List ℕ → Bool
begins [] l = true
begins (k ∷ ks) [] = false
begins (k ∷ ks) (b ∷ l) = eqb k b && begins ks l

-- what follows the key on the first line, and the lines after it; no such line where none is left, no line feed ends it or it begins otherwise
pub data Entry : Type 0 where
  entry : List ℕ → List Line → Entry
  missing : Entry

unfoldable pub entry_of : List ℕ → List Line → Entry
entry_of key [] = missing
entry_of key (ended l ∷ ls) = if begins key l then entry (drop (length key) l) ls else missing
entry_of key (cut l ∷ ls) = missing
