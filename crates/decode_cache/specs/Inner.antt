-- Helper of the code: what a fetch answers, and what it leaves of the cache.
use Rattle.std.specs.Prelude.{List, ℕ, ◌+◌, ◌*◌, ◌/◌, ◌≤◌, eqb, leb, length, get_or, set, if◌then◌else◌}
use Rattle.std.specs.declared.option.Option.{Option}
use Rattle.std.specs.declared.option.Option.TheVariants.{None, Some}
use Rattle.std.specs.Option.{option_map}
use Rattle.effect.specs.Board.{Board}
use Rattle.decode_cache.specs.Cache.{is_filled, cached_form}
use Rattle.decode_cache.specs.declared.Fetched.{Fetched}

-- every entry of a cache is that of a word inside memory
abbrev pub Backed : List ℕ → List ℕ → Type 0
Backed cache mem = 4 * length cache ≤ length mem

-- the entry of word k, if it is filled
abbrev pub filled_at : List ℕ → ℕ → Option ℕ
filled_at cache k = if eqb (get_or cache k 0) 0 then None else Some (get_or cache k 0)

-- a fetch of word k inside memory: the entry that is executed, and whether it was there
abbrev pub fetched_of : Board → List ℕ → List ℕ → ℕ → Fetched
fetched_of board mem cache k = record { entry = cached_form board mem cache k; reused = is_filled (get_or cache k 0) }

-- a fetch at pc, if the word is inside memory, and the cache after it
abbrev pub fetch_at : Board → List ℕ → List ℕ → ℕ → Option Fetched
fetch_at board mem cache pc = if leb (pc + 4) (length mem) then Some (fetched_of board mem cache (pc / 4)) else None

abbrev pub cache_after : Board → List ℕ → List ℕ → ℕ → List ℕ
cache_after board mem cache pc = if leb (pc + 4) (length mem) then set cache (pc / 4) (cached_form board mem cache (pc / 4)) else cache

-- the form alone
abbrev pub form_of_fetch : Option Fetched → Option ℕ
form_of_fetch f = option_map (λ f. f.entry) f

-- the cache after a store at an address, if there is one
abbrev pub emptied_by : Option ℕ → List ℕ → List ℕ
emptied_by None cache = cache
emptied_by (Some at) cache = set cache (at / 4) 0
