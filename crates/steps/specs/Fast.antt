-- An entry of the fast run, for its own core (linked cores: linked/specs/Run): document 01, "Fast run"; document 02, notes 4 and 6. It is defined for every
-- decode cache (the paper's table): also where an entry is not its word's form, which refusal 7 keeps out of runs, and for an empty cache, with which it is the
-- plain run's.
use Rattle.std.specs.Prelude.{List, ℕ, ◌+◌, get_or, set, if◌then◌else◌}
use Rattle.effect.specs.Board.{Board}
use Rattle.effect.specs.declared.types.Effect.{Effect}
use Rattle.commit.specs.Commit.{writes_memory, touched, raised_by}
use Rattle.decode_cache.specs.Cache.{is_filled, filled, cached_form}
use Rattle.semantics.specs.Meaning.{effect_of}
use Rattle.pic.specs.Interrupt.{latched}
use Rattle.steps.specs.Plain.{Plain, is_running, latching, fetched, is_fetch, unfetched, plain_after}
use Rattle.steps.specs.declared.counts.Counts.{Counts}
use Rattle.steps.specs.declared.Scheduled.{Scheduled}
use Rattle.steps.specs.declared.Turn.{Turn}
use Rattle.steps.specs.declared.Turn.TheVariants.{Idle, Unfetched, Instruction}

-- what a fast run has come to: what a plain run has, the decode cache, and the count of fetches that found their entry filled
pub record Fast : Type 0 where
  pub plain : Plain
  pub cache : List ℕ
  pub reused : ℕ

-- "a store then empties the entry of the word it touches, even if that is the running one or the value is the same"
unfoldable pub emptied : Effect → List ℕ → List ℕ
emptied e l = if writes_memory e then set l (touched e) 0 else l

-- "a fetch inside memory counts as reused if its entry is filled and otherwise fills it" (a filled one stays as it is)
unfoldable pub fast_fetch : Board → Fast → ℕ → ℕ → Effect → Fast
fast_fetch board x core k e = record {
  plain = plain_after board x.plain core e;
  cache = emptied e (set x.cache k (cached_form board x.plain.memory x.cache k));
  reused = x.reused + filled (get_or x.cache k 0);
}

-- "No entry changes otherwise."
unfoldable pub fast_unfetched : Board → Fast → ℕ → Fast
fast_unfetched board x core = record { plain = plain_after board x.plain core (unfetched x.plain.states core); cache = x.cache; reused = x.reused }

-- the entry of a running core whose lines are latched
unfoldable pub fast_entry : Board → Fast → ℕ → Fast
fast_entry board x core =
    let mem = x.plain.memory in
    let s = x.plain.states in
    let k = fetched s core in
    if is_fetch mem s core then fast_fetch board x core k (effect_of board mem s core (cached_form board mem x.cache k)) else
    fast_unfetched board x core

abbrev pub fast_latching : Fast → Scheduled → Fast
fast_latching x entry = record { plain = latching x.plain entry; cache = x.cache; reused = x.reused }

unfoldable pub fast_step : Board → Fast → Scheduled → Fast
fast_step board x entry = if is_running x.plain.states entry.core then fast_entry board (fast_latching x entry) entry.core else x

-- "A step ends in a completed instruction or in one exception": what the entry of a running core whose lines are latched hands up to the run
unfoldable pub turn_of : Board → List ℕ → List ℕ → List ℕ → ℕ → Turn
turn_of board mem s cache core =
    let k = fetched s core in
    if is_fetch mem s core then Instruction (effect_of board mem s core (cached_form board mem cache k)).outcome (is_filled (get_or cache k 0)) else
    Unfetched (unfetched s core).outcome

-- the same of any entry
unfoldable pub step_turn : Board → List ℕ → List ℕ → List ℕ → Scheduled → Turn
step_turn board mem s cache entry =
    if is_running s entry.core then turn_of board mem (latched s entry.core entry.lines) cache entry.core else Idle

-- what the run makes of it: "executed (entries of running cores), raised (those that took an exception), reused"
abbrev pub counts_after : Counts → Turn → Counts
counts_after n Idle = n
counts_after n (Unfetched o) = record { executed = n.executed + 1; raised = n.raised + raised_by o; reused = n.reused }
counts_after n (Instruction o u) = record { executed = n.executed + 1; raised = n.raised + raised_by o; reused = n.reused + (if u then 1 else 0) }
