-- A fetch, case by case, as its code goes. Assumes nothing.
use mathlib.Core.Bool.{Bool, true, false}
use mathlib.Core.List.{List}
use mathlib.Core.Path.{◌≡◌, refl, sym, ◌∙◌}
use Prim.Native.Nat.{ℕ, ◌+◌, ◌/◌, ◌%◌, ◌<◌, ◌≤◌}
use native.Mathlib.Omega.{arith}
use lib.Dec.{eqb, leb}
use lib.ListN.{length, get_or, set}
use lib.Seq.{set-get_or}
use borrow.Author.Tests.{eqb-false, le-leb, leb-true, leb-false}
use Rattle.std.specs.Prelude.{if◌then◌else◌}
use Rattle.std.specs.declared.option.Option.TheVariants.{None, Some}
use Rattle.effect.specs.Board.{Board}
use Rattle.decode_cache.specs.Cache.{cached_form}
use Rattle.decode_cache.specs.Inner.{Backed, filled_at, fetched_of, fetch_at, cache_after}
use Rattle.decode_cache.specs.declared.Fetched.{Fetched}
use Rattle.decode_cache.proofs.Forms.{filled_inside}

module _ (c : List ℕ) (k : ℕ) where
  -- an entry that is filled
  pub filled_there : {entry : ℕ} → Some entry ≡ filled_at c k → (eqb (get_or c k 0) 0 ≡ false) × (entry ≡ get_or c k 0)
  filled_there {entry} q = go (eqb (get_or c k 0) 0) refl q
    where
      go : (b : Bool) → eqb (get_or c k 0) 0 ≡ b → Some entry ≡ (if b then None else Some (get_or c k 0)) → (eqb (get_or c k 0) 0 ≡ false) × (entry ≡ get_or c k 0)
      go true e q = cc
      go false e q = (e, cc)

-- a fetch at pc: a filled entry is that of a word inside
module _ (board : Board) (mem c : List ℕ) (pc : ℕ) where
  pub at_filled : Backed c mem → pc % 4 ≡ 0 → {entry : ℕ} → Some entry ≡ filled_at c (pc / 4)
      → (Some (record { entry = entry; reused = true }) ≡ fetch_at board mem c pc) × (c ≡ cache_after board mem c pc)
  at_filled b m {entry} q =
      let f = filled_there c (pc / 4) q in
      let k : pc / 4 < length c = filled_inside c (pc / 4) (eqb-false (get_or c (pc / 4) 0) 0 f.0) in
      let i : leb (pc + 4) (length mem) ≡ true = le-leb _ _ (omega (arith, b, m, k)) in
      (rw (i, f.0, f.1), rw (i, f.0) (sym (set-get_or c (pc / 4) 0)))

  module _ {c' : List ℕ} (q : c' ≡ cache_after board mem c pc) where
    -- what was found tells whether the word is inside
    pub record Inside (f : Fetched) : Type 0 where
      pub inside : pc + 4 ≤ length mem
      pub found : f ≡ fetched_of board mem c (pc / 4)
      pub cache : c' ≡ set c (pc / 4) (cached_form board mem c (pc / 4))

    pub found_inside : {f : Fetched} → Some f ≡ fetch_at board mem c pc → Inside f
    found_inside {f} p = go (leb (pc + 4) (length mem)) refl p
      where
        go : (b : Bool) → leb (pc + 4) (length mem) ≡ b → Some f ≡ (if b then Some (fetched_of board mem c (pc / 4)) else None) → Inside f
        go true e p = record { inside = leb-true _ _ e; found = cc; cache = q ∙ rw e }
        go false e p = cc

    pub record Outside : Type 0 where
      pub outside : length mem < pc + 4
      pub cache : c' ≡ c

    pub found_outside : None ≡ fetch_at board mem c pc → Outside
    found_outside p = go (leb (pc + 4) (length mem)) refl p
      where
        go : (b : Bool) → leb (pc + 4) (length mem) ≡ b → None ≡ (if b then Some (fetched_of board mem c (pc / 4)) else None) → Outside
        go true e p = cc
        go false e p = record { outside = leb-false _ _ e; cache = q ∙ rw e }
