-- The group of a kind: where it stands in the meaning. Assumes nothing.
use mathlib.Core.Bool.{Bool, true, ◌&&◌}
use mathlib.Core.List.{List, [], ◌∷◌}
use mathlib.Core.Path.{◌≡◌, refl}
use Prim.Native.Nat.{ℕ, zero, suc, ◌-◌, ◌≤◌, ◌<◌}
use native.Mathlib.Omega.{arith}
use lib.Dec.{T, leb, leb→le}
use lib.ListN.{length}
use borrow.Author.Tests.{lt-ltb, le-ltb}
use Rattle.bits.proofs.Tests.{and_left, and_right}
use Rattle.isa.specs.Groups.{first_nop_movhi, first_control, first_load, first_add_immediate, first_immediate, first_compare_immediate, first_store, first_arithmetic, first_logic, first_compare, first_cache, first_product, IsNopMovhi, IsControl, IsLoad, IsAddImmediate, IsImmediate, IsCompareImmediate, IsStore, IsArithmetic, IsLogic, IsCompare, IsCache}
use Rattle.effect.specs.declared.types.Inputs.{Inputs}
use Rattle.effect.specs.Board.{Board}
use Rattle.effect.specs.declared.types.Effect.{Effect}
use Rattle.semantics.specs.Meaning.{branches, nop_movhi, control, loads, add_immediates, immediates, stores, arithmetic, logic, compares, caches, products, groups, grouped, meaning}

-- ---- the groups in order

-- the effect of the group at place i, or e after the last
abbrev nth : List (ℕ × Effect) → ℕ → Effect → Effect
nth [] i e = e
nth (g ∷ gs) zero e = g.1
nth (g ∷ gs) (suc i) e = nth gs i e

-- the groups before place i end at or below low
abbrev ended : ℕ → List (ℕ × Effect) → ℕ → Bool
ended low gs zero = true
ended low [] (suc i) = true
ended low (g ∷ gs) (suc i) = leb g.0 low && ended low gs i

-- the group at place i ends above k
abbrev Ends : List (ℕ × Effect) → ℕ → ℕ → Type 0
Ends [] i k = Unit
Ends (g ∷ gs) zero k = k < g.0
Ends (g ∷ gs) (suc i) k = Ends gs i k

grouped_at : (k low : ℕ) → low ≤ k → (e : Effect) (gs : List (ℕ × Effect)) (i : ℕ) → T (ended low gs i) → Ends gs i k → nth gs i e ≡ grouped k gs e
grouped_at k low l e [] i t h = refl
grouped_at k low l e (g ∷ gs) zero t h = rw (lt-ltb k g.0 h)
grouped_at k low l e (g ∷ gs) (suc i) t h =
    let b : g.0 ≤ low = leb→le g.0 low (and_left (leb g.0 low) (ended low gs i) t) in
    rw (le-ltb k g.0 (omega arith)) (grouped_at k low l e gs i (and_right (leb g.0 low) (ended low gs i) t) h)

module _ (board : Board) (mem : List ℕ) (k : ℕ) (x : Inputs) where
  abbrev last : Effect
  last = products k x

  at : (i low : ℕ) → T (ended low (groups board mem k x) i) → low ≤ k → Ends (groups board mem k x) i k → nth (groups board mem k x) i last ≡ meaning board mem k x
  unfolding meaning
  at i low t l h = grouped_at k low l last (groups board mem k x) i t h

  pub is_branch : k < first_nop_movhi → branches k x ≡ meaning board mem k x
  is_branch h = at 0 0 tt (omega arith) h

  pub is_nop_movhi : IsNopMovhi k → nop_movhi k x ≡ meaning board mem k x
  is_nop_movhi h = at 1 first_nop_movhi tt h.0 h.1

  pub is_control : IsControl k → control k x ≡ meaning board mem k x
  is_control h = at 2 first_control tt h.0 h.1

  pub is_load : IsLoad k → loads mem k x ≡ meaning board mem k x
  is_load h = at 3 first_load tt h.0 h.1

  pub is_add_immediate : IsAddImmediate k → add_immediates k x ≡ meaning board mem k x
  is_add_immediate h = at 4 first_add_immediate tt h.0 h.1

  pub is_immediate : IsImmediate k → immediates board.cores k x ≡ meaning board mem k x
  is_immediate h = at 5 first_immediate tt h.0 h.1

  pub is_compare_immediate : IsCompareImmediate k → compares (k - first_compare_immediate) x x.immediate ≡ meaning board mem k x
  is_compare_immediate h = at 6 first_compare_immediate tt h.0 h.1

  pub is_store : IsStore k → stores board.limit (length mem) k x ≡ meaning board mem k x
  is_store h = at 7 first_store tt h.0 h.1

  pub is_arithmetic : IsArithmetic k → arithmetic k x ≡ meaning board mem k x
  is_arithmetic h = at 8 first_arithmetic tt h.0 h.1

  pub is_logic : IsLogic k → logic k x ≡ meaning board mem k x
  is_logic h = at 9 first_logic tt h.0 h.1

  pub is_compare : IsCompare k → compares (k - first_compare) x x.b ≡ meaning board mem k x
  is_compare h = at 10 first_compare tt h.0 h.1

  pub is_cache : IsCache k → caches (length mem) k x ≡ meaning board mem k x
  is_cache h = at 11 first_cache tt h.0 h.1

  pub is_product : first_product ≤ k → products k x ≡ meaning board mem k x
  is_product h = at 12 first_product tt h tt
