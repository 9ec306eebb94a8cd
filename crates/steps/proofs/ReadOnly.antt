-- What a refused store leaves of the decode cache, and that no entry writes below the limit: document 02, note 5. Assumes nothing.
use mathlib.Core.List.{List}
use mathlib.Core.Path.{◌≡◌, refl, ap}
use Prim.Native.Nat.{ℕ, ◌<◌}
use lib.ListN.{get_or}
use Rattle.bits.proofs.Cases.{if_both}
use Rattle.isa.specs.declared.vectors.Cause.{Cause}
use Rattle.effect.specs.Effect.{raises, faults}
use Rattle.effect.specs.declared.types.Inputs.{Inputs}
use Rattle.effect.specs.Board.{Board}
use Rattle.effect.specs.declared.types.Effect.{Effect}
use Rattle.commit.specs.Commit.{memory_after}
use Rattle.decode_cache.specs.Cache.{form_at}
use Rattle.semantics.specs.Meaning.{effect_of}
use Rattle.lawful.proofs.Instruction.{effect_sound, no_store_kept, read_only_kept}
use Rattle.pic.specs.Interrupt.{latched}
use Rattle.steps.specs.Plain.{Plain, is_running, fetched, is_fetch, unfetched, plain_effect, plain_after, plain_entry, plain_step}
use Rattle.steps.specs.Fast.{emptied}
use Rattle.steps.specs.declared.Scheduled.{Scheduled}
use Rattle.steps.proofs.Agree.{unfetched_stores}

-- an exception empties no entry
pub fault_cache : (x : Inputs) (cause : Cause) (eear : ℕ) (l : List ℕ) → emptied (faults x cause eear) l ≡ l
unfolding emptied raises
fault_cache x cause eear l = refl

module _ (board : Board) (j : ℕ) (h : j < board.limit) where
  effect_keeps : (mem s : List ℕ) (core : ℕ) → get_or (memory_after mem (plain_effect board mem s core)) j 0 ≡ get_or mem j 0
  unfolding plain_effect
  effect_keeps mem s core =
      let entry = form_at board mem (fetched s core) in
      if_both (λ (e : Effect). get_or (memory_after mem e) j 0 ≡ get_or mem j 0) (is_fetch mem s core)
      (read_only_kept board mem (effect_of board mem s core entry) (effect_sound board mem s core entry) j h)
      (ap (λ (m : List ℕ). get_or m j 0) (no_store_kept mem (unfetched s core) (unfetched_stores s core)))

  pub step_keeps : (p : Plain) (entry : Scheduled) → get_or (plain_step board p entry).memory j 0 ≡ get_or p.memory j 0
  unfolding plain_step plain_entry plain_after
  step_keeps p entry =
      if_both (λ (q : Plain). get_or q.memory j 0 ≡ get_or p.memory j 0) (is_running p.states entry.core)
      (effect_keeps p.memory (latched p.states entry.core entry.lines) entry.core) refl
