-- No form is 0, and a filled entry stands in the cache. Assumes nothing.
use mathlib.Core.List.{List, [], ◌∷◌}
use mathlib.Core.Path.{◌≡◌, refl, sym, ap, ◌∙◌}
use Prim.Native.Nat.{ℕ, zero, suc, ◌<◌, ◌≤◌}
use native.Mathlib.Omega.{arith}
use lib.ListN.{length, get_or}
use borrow.Author.Tests.{eq-eqb, ne_eqb}
use Rattle.bits.specs.Word.{field}
use Rattle.bits.proofs.Cases.{by_equality}
use Rattle.isa.specs.InstructionSet.{decode}
use Rattle.isa.specs.Inner.{kind_of}
use Rattle.isa.proofs.Complete.{decode_kind}
use Rattle.isa.proofs.Rows.{kind_range}
use Rattle.memory.specs.Memory.{memory_word}
use Rattle.effect.specs.Board.{Board}
use Rattle.decode_cache.specs.Cache.{form_at, cached_form}

-- a form is never 0
pub decode_filled : (w : ℕ) → decode w ≡ 0 → ⊥
decode_filled w h =
    let z : field 0 56 8 ≡ kind_of w = ap (λ (e : ℕ). field e 56 8) (sym h) ∙ decode_kind w in
    let r : 1 ≤ kind_of w = (kind_range w).0 in
    omega arith

pub form_filled : (board : Board) (mem : List ℕ) (k : ℕ) → form_at board mem k ≡ 0 → ⊥
unfolding form_at
form_filled board mem k h = decode_filled (memory_word mem k) h

-- nor is what a fetch inside memory finds
pub form_found : (board : Board) (mem c : List ℕ) (k : ℕ) → cached_form board mem c k ≡ 0 → ⊥
form_found board mem c k h =
    by_equality (get_or c k 0) 0 (λ q. form_filled board mem k (rw (eq-eqb _ _ q) at h)) (λ q. q (rw (ne_eqb _ _ q) at h))

pub filled_inside : (c : List ℕ) (k : ℕ) → (get_or c k 0 ≡ 0 → ⊥) → k < length c
filled_inside [] k n = absurd (n refl)
filled_inside (x ∷ c) zero n = omega arith
filled_inside (x ∷ c) (suc k) n = let h : k < length c = filled_inside c k n in omega arith
