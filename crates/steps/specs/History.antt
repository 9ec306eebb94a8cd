-- The history of the plain run, for the decode cache (the paper's table) lent to the fast one, what an entry adds for its own core (linked cores:
-- linked/specs/Run): document 01, "History"; document 02, note 4. Cached is the paper's held.
use Rattle.std.specs.Prelude.{List, [], ◌∷◌, ℕ, ◌+◌, eqb, get_or, set, if◌then◌else◌}
use Rattle.effect.specs.Board.{Board}
use Rattle.decode_cache.specs.Cache.{form_at, filled}
use Rattle.steps.specs.Plain.{Plain, is_running, latching, fetched, is_fetch, plain_effect}
use Rattle.steps.specs.Fast.{emptied}
use Rattle.steps.specs.declared.Scheduled.{Scheduled}

-- cached: 1 or 0 for each memory word; reused: "counts the fetches whose word was held just before"
pub record History : Type 0 where
  pub cached : List ℕ
  pub reused : ℕ

-- "a word is held at first if its entry there is filled"
unfoldable pub cached_at_first : List ℕ → List ℕ
cached_at_first [] = []
cached_at_first (entry ∷ cache) = filled entry ∷ cached_at_first cache

-- "A fetch makes its word held, even if the instruction raises; a store that writes then makes its word not held": emptied puts 0 at that word.
unfoldable pub history_fetch : Board → Plain → History → ℕ → History
history_fetch board p h core = record {
  cached = emptied (plain_effect board p.memory p.states core) (set h.cached (fetched p.states core) 1);
  reused = h.reused + get_or h.cached (fetched p.states core) 0;
}

-- one entry, on what the plain run had come to; what is no fetch, an interrupt or one outside memory, makes no word held
unfoldable pub history_entry : Board → Plain → History → ℕ → History
history_entry board p h core = if is_fetch p.memory p.states core then history_fetch board p h core else h

unfoldable pub history_step : Board → Plain → History → Scheduled → History
history_step board p h entry = if is_running p.states entry.core then history_entry board (latching p entry) h entry.core else h

-- "After the fast run a held word's entry is the form of what memory now holds there, any other 0": the entries of the words from k on
unfoldable pub entries_from : Board → ℕ → List ℕ → List ℕ → List ℕ
entries_from board k mem [] = []
entries_from board k mem (c ∷ cached) = (if eqb c 0 then 0 else form_at board mem k) ∷ entries_from board (k + 1) mem cached
