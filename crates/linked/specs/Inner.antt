-- What the parts of a run with linked cores promise one another. Nothing here is the papers': Linked and Run have that.
use Rattle.std.specs.Prelude.{◌≡◌, ℕ, ◌-◌, ◌<◌, Bool, true, ◌&&◌, ◌||◌, List, [], ◌==◌, ◌≢◌, if◌then◌else◌}
use Rattle.std.specs.List.{list_any, range_with_len}
use Rattle.effect.specs.State.{mode_at, halted, linked}
use Rattle.commit.specs.Commit.{word_at, put, core_count}
use Rattle.lawful.specs.Inner.{LawfulFlow}
use Rattle.refusal.specs.Lent.{Lent, lent, board_of}
use Rattle.refusal.specs.Refusal.{max_schedule}
use Rattle.steps.specs.Plain.{scheduled_by}
use Rattle.steps.specs.Counts.{no_counts, AtMost, added_to}
use Rattle.steps.specs.Inner.{fast_of, IsForm, Runnable}
use Rattle.steps.specs.declared.counts.Counts.{Counts}
use Rattle.steps.specs.declared.Scheduled.{Scheduled}
use Rattle.linked.specs.Linked.{is_linked, lead_kind, jumps_to_register, is_return, Shared, followed, followers}
use Rattle.linked.specs.Run.{fast_linked, fast_from}
use Rattle.linked.specs.declared.follow.Lead.{Lead}

-- ---- cores in mode 1

-- one is
unfoldable pub any_linked : List ℕ → Bool
any_linked s = list_any (is_linked s) (range_with_len 0 (core_count s))

abbrev pub NoneLinked : List ℕ → Type 0
NoneLinked s = (core : ℕ) → core < core_count s → word_at s core mode_at ≢ linked

-- a core that an instruction left running
abbrev pub relinked : List ℕ → ℕ → List ℕ
relinked s core = if word_at s core mode_at == halted then s else put s core mode_at linked

-- ---- what linked cores do

abbrev pub shared : List ℕ → List ℕ → List ℕ → Shared
shared mem s cache = record { memory = mem; states = s; entries = cache }

-- what is lent, with no schedule
abbrev pub unscheduled : List ℕ → List ℕ → ℕ → List ℕ → Lent
unscheduled mem s limit vectors = lent mem s [] [] limit vectors

-- l.rfe, l.jr and l.jalr read nothing of a linked core
abbrev pub reads_nothing : ℕ → Bool
reads_nothing k = is_return k || jumps_to_register k

-- what is known of a lead: some word has its form; core 0's flow obeys the rules before and after; and these three kinds, which core 0 completed, are in no slot
pub record Leads (lead : Lead) : Type 0 where
  pub is_form : IsForm lead.form
  pub before_lawful : LawfulFlow lead.before
  pub after_lawful : LawfulFlow lead.after
  pub no_slot : reads_nothing (lead_kind lead) ≡ true → lead.before.delay ≡ 0

-- a core of l is linked and can follow a lead
pub record Follows (l : Lent) (cache : List ℕ) (core : ℕ) (lead : Lead) : Type 0 where
  pub runnable : Runnable l cache
  pub leads : Leads lead
  pub other : 0 < core
  pub inside : core < core_count l.states
  pub core_linked : word_at l.states core mode_at ≡ linked

-- it did
abbrev pub Followed : Lent → List ℕ → ℕ → Lead → List ℕ → List ℕ → List ℕ → Type 0
Followed l cache core lead mem' s' cache' = shared mem' s' cache' ≡ followed (board_of l) lead (shared l.memory l.states cache) core

-- it did if it is linked
abbrev pub FollowedIf : Lent → List ℕ → ℕ → Lead → List ℕ → List ℕ → List ℕ → Type 0
FollowedIf l cache core lead mem' s' cache' =
    let x = shared l.memory l.states cache in
    shared mem' s' cache' ≡ (if is_linked l.states core then followed (board_of l) lead x core else x)

-- all the linked cores did
abbrev pub AllFollowed : Lent → List ℕ → Lead → List ℕ → List ℕ → List ℕ → Type 0
AllFollowed l cache lead mem' s' cache' =
    shared mem' s' cache' ≡ followers (board_of l) lead (core_count l.states - 1) (shared l.memory l.states cache)

-- ---- entries

-- what an entry with these counts was: a fetch that core 0 completed
abbrev pub was_shared : ℕ → Counts → Bool
was_shared core n = core == 0 && (n.executed == 1 && n.raised == 0)

-- an entry of the schedule of l turned what is lent into mem', s' and cache', and adds r to the counts
pub record Led (l : Lent) (cache : List ℕ) (entry : Scheduled) (mem' s' cache' : List ℕ) (r : Counts) : Type 0 where
  pub left : (n : Counts) → fast_of mem' s' cache' (added_to n r) ≡ fast_linked (board_of l) (fast_of l.memory l.states cache n) entry
  pub once : AtMost 1 r

-- the schedule of l turned what is lent into mem', s' and cache', and its counts are n
pub record Finished (l : Lent) (cache mem' s' cache' : List ℕ) (n : Counts) : Type 0 where
  pub left : fast_of mem' s' cache' n ≡ fast_from (board_of l) (scheduled_by l) (fast_of l.memory l.states cache no_counts)
  pub small : AtMost max_schedule n
