-- Laws of the kit's `sets`, a list stored over another from a place on. Assumes nothing.
use mathlib.Core.Path.{◌≡◌, refl, ap, sym, ◌∙◌}
use mathlib.Core.List.{List, [], ◌∷◌, ◌++◌}
use Prim.Native.Nat.{ℕ, suc, ◌+◌, ◌≤◌}
use native.Mathlib.Nat.{add-zero, zero-add, add-suc, suc-add}
use native.Mathlib.Omega.{arith}
use lib.ListN.{length, take, drop, set}
use lib.Seq.{sets, sets-eq, take_at, set_comm}

-- what is stored in two parts
pub sets_append : (l : List ℕ) (i : ℕ) (s t : List ℕ) → sets l i (s ++ t) ≡ sets (sets l i s) (i + length s) t
sets_append l i [] t = rw add-zero
sets_append l i (x ∷ s) t = rw (add-suc, ← suc-add) (sets_append (set l i x) (suc i) s t)

-- a store past a text may go first
pub sets_set : (l : List ℕ) (i : ℕ) (s : List ℕ) (j x : ℕ) → i + length s ≤ j → sets (set l j x) i s ≡ set (sets l i s) j x
sets_set l i [] j x h = refl
sets_set l i (y ∷ s) j x h =
    let d : i ≡ j → ⊥ = λ e. omega arith in
    ap (λ m. sets m (suc i) s) (set_comm l j i x y (λ e. d (sym e))) ∙ sets_set (set l i y) (suc i) s j x (omega arith)

module _ (l s : List ℕ) where
  -- one store more after those from 0 on
  pub sets_next : {i : ℕ} (v : ℕ) → length s ≡ i → set (sets l 0 s) i v ≡ sets l 0 (s ++ (v ∷ []))
  sets_next v e = sym (sets_append l 0 s (v ∷ []) ∙ ap (λ i. set (sets l 0 s) i v) (zero-add (length s) ∙ e))

  module _ (h : length s ≤ length l) where
    pub sets_front : sets l 0 s ≡ s ++ drop (length s) l
    sets_front = let z : 0 + length s ≡ length s = zero-add (length s) in sets-eq s l 0 (omega arith) ∙ ap (λ k. s ++ drop k l) z

    pub take_sets : (n : ℕ) → length s ≡ n → take n (sets l 0 s) ≡ s
    take_sets n e = ap (take n) sets_front ∙ take_at s (drop (length s) l) n e
