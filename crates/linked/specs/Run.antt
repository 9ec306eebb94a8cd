-- Both runs, with linked cores: document 01, "Plain run", "Fast run" and "History"; document 02, notes 4 to 6 and 8.
use Rattle.std.specs.Prelude.{ℕ, ◌-◌, Bool, ◌&&◌, List, [], ◌∷◌, ◌==◌, if◌then◌else◌}
use Rattle.effect.specs.Board.{Board}
use Rattle.commit.specs.Commit.{core_count}
use Rattle.decode_cache.specs.Cache.{form_at, cached_form}
use Rattle.semantics.specs.Meaning.{effect_of}
use Rattle.pic.specs.Interrupt.{latched}
use Rattle.refusal.specs.Lent.{Lent, board_of}
use Rattle.steps.specs.Plain.{Plain, scheduled_by, is_running, fetched, is_fetch, plain_step}
use Rattle.steps.specs.Fast.{Fast, fast_step}
use Rattle.steps.specs.History.{History, cached_at_first, history_step}
use Rattle.steps.specs.declared.Scheduled.{Scheduled}
use Rattle.linked.specs.Linked.{flow_at, completes, Shared, followers}
use Rattle.linked.specs.declared.follow.Lead.{Lead}

-- "Each completed fetch of core 0": the entry is core 0's, which fetches, and the form, which is what it fetches, raises nothing
unfoldable pub is_shared : Board → List ℕ → List ℕ → Scheduled → ℕ → Bool
is_shared board mem s entry form =
    let t = latched s entry.core entry.lines in
    (entry.core == 0) && (is_running s entry.core && (is_fetch mem t entry.core && completes (effect_of board mem t entry.core form)))

-- what core 0 hands to the linked cores: the form, and its flow before its step, in s, and after it, in s'
abbrev pub lead_of : ℕ → List ℕ → List ℕ → Lead
lead_of form s s' = record { form = form; before = flow_at s 0; after = flow_at s' 0 }

-- y is what the entry's own core left of mem and s. If the fetch is shared, the linked cores then execute it too. "If core 0 raises, no linked core executes that
-- fetch and no linked sheet changes."
unfoldable pub after_linked : Board → List ℕ → List ℕ → Scheduled → ℕ → Shared → Shared
after_linked board mem s entry form y =
    if is_shared board mem s entry form then followers board (lead_of form s y.states) (core_count s - 1) y else y

-- ---- an entry of the schedule

-- what core 0 fetches
abbrev pub form_fetched : Board → List ℕ → List ℕ → ℕ
form_fetched board mem s = form_at board mem (fetched s 0)

-- the same in the fast run: a filled entry as it stands
abbrev pub cached_fetched : Board → List ℕ → List ℕ → List ℕ → ℕ
cached_fetched board mem s cache = cached_form board mem cache (fetched s 0)

-- of the plain run; "A fetch that linked cores share counts once in executed", and a linked core that would raise is "uncounted in raised"
unfoldable pub plain_linked : Board → Plain → Scheduled → Plain
plain_linked board p entry =
    let q = plain_step board p entry in
    let y = after_linked board p.memory p.states entry (form_fetched board p.memory p.states) (record { memory = q.memory; states = q.states; entries = [] }) in
    record { memory = y.memory; states = y.states; executed = q.executed; raised = q.raised }

-- of the fast run: ".. and, if its entry was filled, once in reused"
unfoldable pub fast_linked : Board → Fast → Scheduled → Fast
fast_linked board x entry =
    let mem = x.plain.memory in
    let s = x.plain.states in
    let z = fast_step board x entry in
    let y = after_linked board mem s entry (cached_fetched board mem s x.cache) (record { memory = z.plain.memory; states = z.plain.states; entries = z.cache }) in
    record {
      plain = record { memory = y.memory; states = y.states; executed = z.plain.executed; raised = z.plain.raised };
      cache = y.entries;
      reused = z.reused;
    }

-- of the history: "a store that writes then makes its word not held", a linked core's too
unfoldable pub history_linked : Board → Plain → History → Scheduled → History
history_linked board p h entry =
    let q = plain_step board p entry in
    let g = history_step board p h entry in
    let y = after_linked board p.memory p.states entry (form_fetched board p.memory p.states) (record { memory = q.memory; states = q.states; entries = g.cached }) in
    record { cached = y.entries; reused = g.reused }

-- ---- a schedule: "The schedule's entries go in order, each on what the last left." "An empty schedule changes nothing."

unfoldable pub plain_from : Board → List Scheduled → Plain → Plain
plain_from board [] p = p
plain_from board (entry ∷ more) p = plain_from board more (plain_linked board p entry)

unfoldable pub fast_from : Board → List Scheduled → Fast → Fast
fast_from board [] x = x
fast_from board (entry ∷ more) x = fast_from board more (fast_linked board x entry)

unfoldable pub history_from : Board → List Scheduled → Plain → History → History
history_from board [] p h = h
history_from board (entry ∷ more) p h = history_from board more (plain_linked board p entry) (history_linked board p h entry)

-- ---- a run

-- "its counts start at 0"
abbrev pub start : Lent → Plain
start l = record { memory = l.memory; states = l.states; executed = 0; raised = 0 }

-- "it takes memory, sheets and schedule" and, beside these, the levels, the limit and the vectors
unfoldable pub plain_run : Lent → Plain
plain_run l = plain_from (board_of l) (scheduled_by l) (start l)

-- the history of the plain run, for the decode cache lent to the fast one: "a word is held at first if its entry there is filled"
unfoldable pub history : Lent → List ℕ → History
history l cache = history_from (board_of l) (scheduled_by l) (start l) (record { cached = cached_at_first cache; reused = 0 })
