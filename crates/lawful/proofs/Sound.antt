-- Every instruction's effect is sound. Assumes nothing.
use mathlib.Core.Bool.{Bool, ◌&&◌}
use mathlib.Core.List.{List}
use mathlib.Core.Option.{none}
use mathlib.Core.Path.{◌≡◌}
use Prim.Native.Nat.{ℕ, ◌%◌, ◌<◌}
use native.Mathlib.Omega.{arith}
use lib.Dec.{eqb, ltb}
use lib.ListN.{length}
use Rattle.bits.proofs.Cases.{if_both}
use Rattle.isa.specs.Register.{Register}
use Rattle.isa.specs.declared.vectors.Cause.{Cause}
use Rattle.isa.specs.declared.vectors.Cause.TheVariants.{Alignment}
use Rattle.arith.specs.Bit.{is_set}
use Rattle.arith.specs.Status.{OVE}
use Rattle.arith.specs.declared.Flagged.{Flagged}
use Rattle.memory.specs.Memory.{bytes, no_limit, access}
use Rattle.memory.specs.declared.Width.{Width}
use Rattle.memory.specs.declared.Width.TheVariants.{Word}
use Rattle.memory.proofs.Laws.{granted_above, granted_inside, granted_in_word}
use Rattle.product.specs.declared.Accumulator.{Accumulator}
use Rattle.effect.specs.State.{state_words, epcr_at, eear_at, esr_at, machi_at, maclo_at, picmr_at, picsr_at}
use Rattle.effect.specs.Effect.{in_slot, advances, raises, faults, accumulating}
use Rattle.effect.specs.declared.types.Inputs.{Inputs}
use Rattle.effect.specs.Board.{Board}
use Rattle.action.specs.Operations.{nop, sets_flag, syscall, result_or_raises, divides, jump, branch, register_jump, returns, load, load_linked, storing, store, linked, store_conditional, touch, sets_special_register, effective_address}
use Rattle.semantics.specs.Meaning.{meaning}
use Rattle.lawful.specs.Inner.{Sound, InWord, SoundStore, stores_none, stores_some}
use Rattle.lawful.proofs.Reaches.{reaches_law}
use Rattle.lawful.proofs.Table.{Lines, meaning_has}

-- ---- the effects, one by one

module _ (board : Board) (len : ℕ) (x : Inputs) where
  pub advances_sound : (place v sr : ℕ) → place < state_words → Sound board len (advances x place v sr)
  unfolding advances
  advances_sound place v sr h = record { place_lt = h; sound_store = stores_none }

  pub flag_sound : (t : Bool) → Sound board len (sets_flag x t)
  unfolding sets_flag
  flag_sound t = advances_sound 0 0 _ (omega arith)

  pub nop_sound : Sound board len (nop x)
  unfolding nop
  nop_sound =
      if_both (Sound board len) (eqb x.immediate 1) (record { place_lt = omega arith; sound_store = stores_none })
      (advances_sound 0 0 x.sr (omega arith))

  pub raises_sound : (place v sr : ℕ) (cause : Cause) (eear : ℕ) → place < state_words → Sound board len (raises x place v sr cause eear)
  unfolding raises
  raises_sound place v sr cause eear h = record { place_lt = h; sound_store = stores_none }

  pub faults_sound : (cause : Cause) (eear : ℕ) → Sound board len (faults x cause eear)
  faults_sound cause eear = raises_sound 0 0 _ cause eear (omega arith)

  pub syscall_sound : Sound board len (syscall x)
  unfolding syscall
  syscall_sound = if_both (Sound board len) (in_slot x) (faults_sound _ _) (faults_sound _ _)

  pub jump_sound : (place v to : ℕ) → place < state_words → Sound board len (jump x place v to)
  unfolding jump
  jump_sound place v to h = if_both (Sound board len) (in_slot x) (faults_sound _ _) (record { place_lt = h; sound_store = stores_none })

  pub branch_sound : (taken : Bool) → Sound board len (branch x taken)
  unfolding branch
  branch_sound taken = jump_sound 0 0 _ (omega arith)

  pub register_jump_sound : (place v : ℕ) → place < state_words → Sound board len (register_jump x place v)
  unfolding register_jump
  register_jump_sound place v h =
      if_both (Sound board len) (in_slot x) (faults_sound _ _)
      (if_both (Sound board len) (ltb 0 (x.b % 4)) (faults_sound Alignment x.b) (record { place_lt = h; sound_store = stores_none }))

  pub return_sound : Sound board len (returns x)
  unfolding returns
  return_sound = if_both (Sound board len) (in_slot x) (faults_sound _ _) (record { place_lt = omega arith; sound_store = stores_none })

  pub touch_sound : Sound board len (touch x len)
  unfolding touch
  touch_sound = reaches_law (Sound board len) x 1 no_limit len (λ g. advances_sound 0 0 x.sr (omega arith)) faults_sound

  -- a granted access stores into one word
  storing_in_word : (w : Width) → access (bytes w) board.limit len (effective_address x) ≡ none → InWord board len (storing x w)
  storing_in_word w g =
      let at = effective_address x in
      record {
        above = granted_above (bytes w) board.limit len at g;
        inside = granted_inside (bytes w) board.limit len at g;
        in_word = granted_in_word w board.limit len at g;
      }

  pub store_sound : (w : Width) → Sound board len (store board.limit x len w)
  unfolding store
  store_sound w =
      reaches_law (Sound board len) x (bytes w) board.limit len (λ g. record { place_lt = omega arith; sound_store = stores_some (storing_in_word w g) }) faults_sound

  pub store_conditional_sound : Sound board len (store_conditional board.limit x len)
  unfolding store_conditional
  store_conditional_sound =
      reaches_law (Sound board len) x 4 board.limit len
      (λ g. record { place_lt = omega arith; sound_store = if_both (SoundStore board len) (linked x) (stores_some (storing_in_word Word g)) stores_none })
      faults_sound

  pub special_sound : (n v : ℕ) → Sound board len (sets_special_register x n v)
  unfolding sets_special_register
  special_sound n v =
      if_both (Sound board len) (eqb n 17) (advances_sound 0 0 _ (omega arith)) (
      if_both (Sound board len) (eqb n 32) (advances_sound epcr_at _ _ (omega arith)) (
      if_both (Sound board len) (eqb n 48) (advances_sound eear_at v _ (omega arith)) (
      if_both (Sound board len) (eqb n 64) (advances_sound esr_at _ _ (omega arith)) (
      if_both (Sound board len) (eqb n 0x2801) (advances_sound maclo_at v _ (omega arith)) (
      if_both (Sound board len) (eqb n 0x2802) (advances_sound machi_at v _ (omega arith)) (
      if_both (Sound board len) (eqb n 0x4800) (advances_sound picmr_at _ _ (omega arith)) (
      if_both (Sound board len) (eqb n 0x4802) (advances_sound picsr_at _ _ (omega arith)) (
      advances_sound 0 0 _ (omega arith)))))))))

  pub accumulating_sound : (place v : ℕ) → place < state_words → (m : Accumulator) → Sound board len (accumulating x place v m)
  accumulating_sound place v h m = record { place_lt = h; sound_store = stores_none }

  -- the destination is a register
  module _ (d : Register x.d) where
    pub result_sound : (f : Flagged) → Sound board len (result_or_raises x f)
    unfolding result_or_raises
    result_sound f =
        if_both (Sound board len) (is_set OVE x.sr && f.overflow) (raises_sound x.d f.value _ _ _ (omega arith))
        (advances_sound x.d f.value _ (omega arith))

    pub divides_sound : (q : ℕ) → Sound board len (divides x q)
    unfolding divides
    divides_sound q =
        if_both (Sound board len) (eqb x.b 0)
        (if_both (Sound board len) (is_set OVE x.sr) (raises_sound 0 0 _ _ _ (omega arith)) (advances_sound 0 0 _ (omega arith)))
        (advances_sound x.d q _ (omega arith))

    pub load_sound : (mem : List ℕ) (n : ℕ) (sign : Bool) → Sound board len (load x mem n sign)
    unfolding load
    load_sound mem n sign = reaches_law (Sound board len) x n no_limit (length mem) (λ g. advances_sound x.d _ x.sr (omega arith)) faults_sound

    pub load_linked_sound : (mem : List ℕ) → Sound board len (load_linked x mem)
    unfolding load_linked
    load_linked_sound mem = reaches_law (Sound board len) x 4 no_limit (length mem) (λ g. record { place_lt = omega arith; sound_store = stores_none }) faults_sound

-- ---- every instruction

sound_lines : (board : Board) (mem : List ℕ) (x : Inputs) → Register x.d → Lines (Sound board (length mem)) Unit board mem x
sound_lines board mem x d =
    let len = length mem in
    record {
      of_writes = λ v. advances_sound board len x x.d v x.sr (omega arith);
      of_nothing = advances_sound board len x 0 0 x.sr (omega arith);
      of_flag = flag_sound board len x;
      of_nop = nop_sound board len x;
      of_illegal = faults_sound board len x _ _;
      of_trap = faults_sound board len x _ _;
      of_syscall = syscall_sound board len x;
      of_result = λ f. result_sound board len x d f;
      of_divides = divides_sound board len x d;
      of_accumulates = accumulating_sound board len x 0 0 (omega arith);
      of_reads_accumulator = accumulating_sound board len x x.d _ (omega arith) _;
      of_jump = λ _ place v h. jump_sound board len x place v _ (omega arith);
      of_branch = λ _ taken. branch_sound board len x taken;
      of_register_jump = λ place v h. register_jump_sound board len x place v (omega arith);
      of_return = return_sound board len x;
      of_load = λ n sign. load_sound board len x d mem n sign;
      of_load_linked = load_linked_sound board len x d mem;
      of_store = store_sound board len x;
      of_store_conditional = store_conditional_sound board len x;
      of_touch = touch_sound board len x;
      of_special = special_sound board len x;
    }

module _ (board : Board) (mem : List ℕ) (x : Inputs) (d : Register x.d) where
  pub meaning_sound : (k : ℕ) → Sound board (length mem) (meaning board mem k x)
  meaning_sound k = meaning_has (Sound board (length mem)) Unit board mem x (sound_lines board mem x d) k (λ _. tt)
