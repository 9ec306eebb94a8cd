-- What is not refused, fact by fact; and back. Assumes nothing.
use mathlib.Core.Bool.{◌&&◌}
use mathlib.Core.List.{List}
use mathlib.Core.Path.{◌≡◌, sym, ◌∙◌}
use Prim.Native.Nat.{ℕ, ◌/◌, ◌%◌, ◌≤◌}
use native.Mathlib.Omega.{arith}
use lib.Dec.{T, eqb, leb, leb→le}
use lib.ListN.{length}
use Rattle.bits.proofs.Tests.{and_left, and_right}
use Rattle.bits.proofs.Cases.{by_equality}
use Rattle.vector_list.specs.Rules.{vectors_fit}
use Rattle.effect.specs.State.{state_words}
use Rattle.commit.specs.Commit.{core_count}
use Rattle.refusal.specs.Lent.{Lent, board_of}
use Rattle.refusal.specs.Refusal.{memory_fits, states_fit, states_obey, schedule_fits, names_cores, levels_fit, limit_fits, cache_fits, entries_right, run_rules, cache_rules, first_broken, plain_refusal, fast_refusal, refusal_number}
use Rattle.refusal.specs.declared.cause.Refusal.{Refusal}
use Rattle.refusal.specs.declared.cause.Refusal.TheVariants.{MemoryLength, StatesLength, StateRule, ScheduleLength, NoSuchCore, LevelsLength, ReadOnlyLimit, VectorList, CacheLength, CacheEntry}
use Rattle.refusal.proofs.Tests.{each_passes, none_broken, broken_before, broken_after}

-- what both runs accept
pub record Passes (l : Lent) : Type 0 where
  pub memory_fits_lem : T (memory_fits (length l.memory))
  pub states_fit_lem : T (states_fit (length l.states))
  pub states_obey_lem : T (states_obey (board_of l) l.states)
  pub schedule_fits_lem : T (schedule_fits (length l.schedule))
  pub names_cores_lem : T (names_cores (core_count l.states) l.schedule)
  pub levels_fit_lem : T (levels_fit (length l.schedule) (length l.levels))
  pub limit_fits_lem : T (limit_fits (length l.memory) l.limit)
  pub vectors_fit_lem : T (vectors_fit l.vectors)

-- and the fast run, of the decode cache
pub record CachePasses (l : Lent) (cache : List ℕ) : Type 0 where
  pub cache_fits_lem : T (cache_fits (length l.memory) (length cache))
  pub entries_right_lem : T (entries_right (board_of l) l.memory cache)

module _ (l : Lent) where
  pub plain_passes : plain_refusal l ≡ 0 → Passes l
  unfolding plain_refusal
  plain_passes z =
      let t = each_passes (run_rules l) tt z in
      record {
        memory_fits_lem = t.0;
        states_fit_lem = t.1.0;
        states_obey_lem = t.1.1.0;
        schedule_fits_lem = t.1.1.1.0;
        names_cores_lem = t.1.1.1.1.0;
        levels_fit_lem = t.1.1.1.1.1.0;
        limit_fits_lem = t.1.1.1.1.1.1.0;
        vectors_fit_lem = t.1.1.1.1.1.1.1.0;
      }

  none_broken_of : Passes l → plain_refusal l ≡ 0
  unfolding plain_refusal
  none_broken_of p =
      none_broken (run_rules l)
      (p.memory_fits_lem, (p.states_fit_lem, (p.states_obey_lem, (p.schedule_fits_lem, (p.names_cores_lem, (p.levels_fit_lem, (p.limit_fits_lem, (p.vectors_fit_lem, tt))))))))

  module _ (cache : List ℕ) where
    -- what the fast run accepts the plain run accepts
    pub fast_then_plain : fast_refusal l cache ≡ 0 → plain_refusal l ≡ 0
    unfolding plain_refusal fast_refusal
    fast_then_plain z =
        by_equality (first_broken (run_rules l)) 0 (λ q. q) (λ n. absurd (n (sym (broken_before (run_rules l) (cache_rules (board_of l) l.memory cache) n) ∙ z)))

    -- the rules on the cache come after the others
    pub then_cache : plain_refusal l ≡ 0 → first_broken (cache_rules (board_of l) l.memory cache) ≡ fast_refusal l cache
    unfolding plain_refusal fast_refusal
    then_cache z = sym (broken_after (run_rules l) (cache_rules (board_of l) l.memory cache) tt z)

    pub before_cache : (plain_refusal l ≡ 0 → ⊥) → plain_refusal l ≡ fast_refusal l cache
    unfolding plain_refusal fast_refusal
    before_cache n = sym (broken_before (run_rules l) (cache_rules (board_of l) l.memory cache) n)

    pub cache_passes : fast_refusal l cache ≡ 0 → CachePasses l cache
    cache_passes z =
        let t = each_passes (cache_rules (board_of l) l.memory cache) tt (then_cache (fast_then_plain z) ∙ z) in
        record { cache_fits_lem = t.0; entries_right_lem = t.1.0 }

    pub none_refused : Passes l → CachePasses l cache → fast_refusal l cache ≡ 0
    none_refused p c =
        sym (then_cache (none_broken_of p)) ∙ none_broken (cache_rules (board_of l) l.memory cache) (c.cache_fits_lem, (c.entries_right_lem, tt))

-- ---- the numbers

pub cause_number : (cause : Refusal) → refusal_number cause ≡ 0 → ⊥
cause_number MemoryLength h = omega arith
cause_number StatesLength h = omega arith
cause_number StateRule h = omega arith
cause_number ScheduleLength h = omega arith
cause_number NoSuchCore h = omega arith
cause_number LevelsLength h = omega arith
cause_number ReadOnlyLimit h = omega arith
cause_number VectorList h = omega arith
cause_number CacheLength h = omega arith
cause_number CacheEntry h = omega arith

-- ---- one to four cores

pub cores_fit : (n : ℕ) → T (states_fit n) → (1 ≤ n / state_words) × (n / state_words ≤ 4)
unfolding states_fit
cores_fit n t =
    let u = and_right (eqb (n % state_words) 0) (leb 1 (n / state_words) && leb (n / state_words) 4) t in
    (leb→le 1 (n / state_words) (and_left (leb 1 (n / state_words)) (leb (n / state_words) 4) u), leb→le (n / state_words) 4 (and_right (leb 1 (n / state_words)) (leb (n / state_words) 4) u))
