-- What a commit leaves. Assumes nothing.
use mathlib.Core.List.{List}
use mathlib.Core.Path.{◌≡◌, sym, subst}
use Prim.Native.Nat.{ℕ, ◌<◌}
use Rattle.effect.specs.State.{state_words}
use Rattle.effect.specs.Effect.{no_store, Outcome}
use Rattle.effect.specs.declared.types.Effect.{Effect}
use Rattle.commit.specs.Commit.{memory_after}
use Rattle.commit.specs.Inner.{tells, Fits, Owned, Performed}
use Rattle.commit.specs.declared.Done.{Done}

-- the same effect under another name
module _ {e e' : Effect} (p : e ≡ e') where
  pub placed_as : e'.place < state_words → e.place < state_words
  placed_as h = subst (λ (f : Effect). f.place < state_words) (sym p) h

  pub fits_as : {len : ℕ} → Fits len e' → Fits len e
  fits_as {len} h = subst (Fits len) (sym p) h

  pub owned_as : {vectors own own' : List ℕ} {o : Outcome} → Owned vectors own e own' o → Owned vectors own e' own' o
  owned_as {vectors} {own} {own'} {o} h = subst (λ (f : Effect). Owned vectors own f own' o) p h

  pub performed_as : {vectors mem own mem' own' : List ℕ} {r : Done} → Performed vectors mem own e mem' own' r → Performed vectors mem own e' mem' own' r
  performed_as {vectors} {mem} {own} {mem'} {own'} {r} h = subst (λ (f : Effect). Performed vectors mem own f mem' own' r) p h

-- the core's own state is committed
module _ {vectors own own' : List ℕ} {e : Effect} {o : Outcome} (h : Owned vectors own e own' o) where
  -- an effect that stores nothing leaves every memory as it is
  pub kept : e.store ≡ no_store → (mem : List ℕ) → Performed vectors mem own e mem own' (tells o no_store)
  unfolding memory_after
  kept n mem = record { memory = rw n; left = h.left; done = rw (n, h.ended) }
