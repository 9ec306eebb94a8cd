-- Every instruction's effect obeys the rules on a core's state, if what it reads does. Assumes nothing.
use mathlib.Core.Bool.{Bool, true, false, ◌&&◌}
use mathlib.Core.List.{List}
use mathlib.Core.Path.{◌≡◌, refl, ap₂, ◌∙◌}
use Prim.Native.Nat.{ℕ, ◌+◌, ◌%◌, ◌≤◌}
use native.Mathlib.Omega.{arith}
use lib.Bits.{bit_and, bit_or, or_mod, and_mask, and_le_l, or_add_and}
use lib.Dec.{eqb, ltb}
use lib.IntN.{sub_ℕ, ◌-ℤ◌}
use lib.ListN.{length}
use borrow.Author.Tests.{ltb-false}
use Rattle.std.specs.Prelude.{Option}
use Rattle.bits.specs.Word.{word}
use Rattle.bits.proofs.Cases.{if_law, if_both}
use Rattle.isa.specs.Register.{Register}
use Rattle.isa.specs.declared.vectors.Cause.{Cause}
use Rattle.isa.specs.declared.vectors.Cause.TheVariants.{Bus, Alignment, Illegal, Range, Syscall, Trap, Interrupt}
use Rattle.isa.specs.Groups.{IsBranch}
use Rattle.arith.specs.Bit.{is_set}
use Rattle.arith.specs.Status.{OVE, aligned, set_carry_overflow}
use Rattle.arith.specs.Sums.{address_sum, address_difference}
use Rattle.arith.specs.declared.Flagged.{Flagged}
use Rattle.arith.proofs.Integer.{by_sign, sub_sub, sub_zero}
use Rattle.arith.proofs.Status.{allowed_flag, allowed_carry_overflow, allowed_exception, allowed_again, aligned_multiple}
use Rattle.arith.proofs.Sums.{address_sum_multiple}
use Rattle.memory.specs.Memory.{bytes, no_limit}
use Rattle.memory.specs.declared.Width.{Width}
use Rattle.memory.proofs.Laws.{granted_aligned}
use Rattle.product.specs.declared.Accumulator.{Accumulator}
use Rattle.effect.specs.State.{epcr_at, eear_at, esr_at, machi_at, maclo_at, picmr_at, picsr_at}
use Rattle.effect.specs.Effect.{completing, in_slot, onward, advances, restart, exception_pc, raises, faults, jumping, accumulating}
use Rattle.effect.specs.declared.types.Inputs.{Inputs}
use Rattle.effect.specs.Board.{Board}
use Rattle.effect.specs.declared.types.Flow.{Flow}
use Rattle.effect.specs.declared.types.Link.{Link}
use Rattle.effect.specs.declared.types.Store.{Store}
use Rattle.action.specs.Operations.{nop, sets_flag, syscall, flags, result_or_raises, divides, jump, branch, register_jump, returns, load, load_linked, linked, store, store_conditional, touch, sets_special_register}
use Rattle.semantics.specs.Meaning.{meaning}
use Rattle.lawful.specs.Inner.{Status, Multiple, Mask, LawfulFlow, LawfulLink, OwnMode, is_halted, is_running_lem, LawfulInputs, LawfulWord, to_register, to_epcr, to_eear, to_esr, to_machi, to_maclo, to_picmr, to_picsr, completes, raised, Lawful}
use Rattle.lawful.proofs.Reaches.{reaches_law}
use Rattle.lawful.proofs.Table.{meaning_has}

-- a difference of multiples of 4 is one, whatever their size
difference_multiple : (a b : ℕ) → Multiple a → Multiple b → Multiple (address_difference a b)
unfolding address_difference word
difference_multiple a b ma mb =
    let e : a + 0 ≡ a = omega arith in
    let f : 0 + b ≡ b = omega arith in
    rw (ap₂ ◌-ℤ◌ (sub_zero a) (sub_zero b) ∙ sub_sub a 0 b 0 ∙ ap₂ sub_ℕ e f)
    (by_sign a b (λ z. Multiple (word z)) (λ h. omega arith) (λ h. omega arith))

-- what a write leaves in PICMR
mask_again : (v : ℕ) → Mask (bit_or v 3)
mask_again v =
    let m : bit_or v 3 % 4 ≡ bit_or (v % 4) 3 = or_mod v 3 2 in
    let a : bit_and (v % 4) 3 ≡ v % 4 % 4 = and_mask (v % 4) 2 in
    m ∙ omega (arith, or_add_and (v % 4) 3)

-- no slot follows
straight : (pc : ℕ) → Multiple pc → LawfulFlow (record { pc = pc; delay = 0; target = 0 })
straight pc h = record { delay_bit = omega arith; pc_multiple = h; target_multiple = refl; no_target = λ _. refl }

pub no_link_lawful : LawfulLink (record { held = 0; address = 0 })
no_link_lawful = record { held_bit = omega arith; address_multiple = refl; no_address = λ _. refl }

-- a completed instruction
completed_lawful : {picsr place v sr mode : ℕ} {flow : Flow} {link : Link} {a : Option Accumulator} {store : Option Store} → LawfulWord picsr place v → Status sr → LawfulFlow flow
    → LawfulLink link → OwnMode mode → Lawful picsr (completing place v sr flow link mode a store)
completed_lawful w s f l m =
    record { word_lawful = w; flow_lawful = f; link_lawful = l; sr_lawful = s; mode_lawful = m; outcome_lawful = completes }

-- ---- the effects, one by one

module _ (x : Inputs) (i : LawfulInputs x) where
  next_multiple : (n : ℕ) → Multiple n → Multiple (address_sum x.flow.pc n)
  next_multiple n h = address_sum_multiple x.flow.pc n i.flow_lawful.pc_multiple h

  onward_lawful : LawfulFlow (onward x)
  unfolding onward
  onward_lawful = straight _ (if_both Multiple (in_slot x) i.flow_lawful.target_multiple (next_multiple 4 refl))

  restart_multiple : Multiple (restart x)
  unfolding restart
  restart_multiple =
      if_both Multiple (in_slot x) (difference_multiple x.flow.pc 4 i.flow_lawful.pc_multiple refl) i.flow_lawful.pc_multiple

  pub advances_lawful : (place v sr : ℕ) → LawfulWord x.picsr place v → Status sr → Lawful x.picsr (advances x place v sr)
  unfolding advances
  advances_lawful place v sr w s =
      completed_lawful w s onward_lawful i.link_lawful is_running_lem

  pub nothing_lawful : Lawful x.picsr (advances x 0 0 x.sr)
  nothing_lawful = advances_lawful 0 0 x.sr (to_register (omega arith)) i.sr_lawful

  pub writes_lawful : (v : ℕ) → Lawful x.picsr (advances x x.d v x.sr)
  writes_lawful v = advances_lawful x.d v x.sr (to_register i.register) i.sr_lawful

  pub flag_lawful : (t : Bool) → Lawful x.picsr (sets_flag x t)
  unfolding sets_flag
  flag_lawful t = advances_lawful 0 0 _ (to_register (omega arith)) (allowed_flag x.sr i.sr_lawful t)

  pub nop_lawful : Lawful x.picsr (nop x)
  unfolding nop
  nop_lawful =
      if_both (Lawful x.picsr) (eqb x.immediate 1)
      (completed_lawful (to_register (omega arith)) i.sr_lawful onward_lawful i.link_lawful is_halted)
      nothing_lawful

  exception_pc_multiple : (cause : Cause) → Multiple (exception_pc x cause)
  exception_pc_multiple Bus = restart_multiple
  exception_pc_multiple Alignment = restart_multiple
  exception_pc_multiple Illegal = restart_multiple
  exception_pc_multiple Range = restart_multiple
  exception_pc_multiple Syscall = next_multiple 4 refl
  exception_pc_multiple Trap = restart_multiple
  exception_pc_multiple Interrupt = i.flow_lawful.pc_multiple

  pub raises_lawful : (place v sr : ℕ) (cause : Cause) (eear : ℕ) → LawfulWord x.picsr place v → Status sr → Lawful x.picsr (raises x place v sr cause eear)
  unfolding raises
  raises_lawful place v sr cause eear w s =
      record {
        word_lawful = w;
        flow_lawful = straight _ i.flow_lawful.pc_multiple;
        link_lawful = no_link_lawful;
        sr_lawful = allowed_exception sr s (in_slot x);
        mode_lawful = is_running_lem;
        outcome_lawful = raised (exception_pc_multiple cause) s;
      }

  pub faults_lawful : (cause : Cause) (eear : ℕ) → Lawful x.picsr (faults x cause eear)
  faults_lawful cause eear = raises_lawful 0 0 x.sr cause eear (to_register (omega arith)) i.sr_lawful

  pub syscall_lawful : Lawful x.picsr (syscall x)
  unfolding syscall
  syscall_lawful = if_both (Lawful x.picsr) (in_slot x) (faults_lawful _ _) (faults_lawful _ _)

  flags_lawful : (f : Flagged) → Status (flags x f)
  flags_lawful f = allowed_carry_overflow x.sr i.sr_lawful f.carry f.overflow

  pub result_lawful : (f : Flagged) → Lawful x.picsr (result_or_raises x f)
  unfolding result_or_raises
  result_lawful f =
      if_both (Lawful x.picsr) (is_set OVE x.sr && f.overflow)
      (raises_lawful x.d f.value _ _ _ (to_register i.register) (flags_lawful f))
      (advances_lawful x.d f.value _ (to_register i.register) (flags_lawful f))

  divide_flags_lawful : (cy : Bool) → Status (set_carry_overflow cy false x.sr)
  divide_flags_lawful cy = allowed_carry_overflow x.sr i.sr_lawful cy false

  pub divides_lawful : (q : ℕ) → Lawful x.picsr (divides x q)
  unfolding divides
  divides_lawful q =
      if_both (Lawful x.picsr) (eqb x.b 0)
      (if_both (Lawful x.picsr) (is_set OVE x.sr)
      (raises_lawful 0 0 _ _ _ (to_register (omega arith)) (divide_flags_lawful true))
      (advances_lawful 0 0 _ (to_register (omega arith)) (divide_flags_lawful true)))
      (advances_lawful x.d q _ (to_register i.register) (divide_flags_lawful false))

  pub accumulating_lawful : (place v : ℕ) → Register place → (m : Accumulator) → Lawful x.picsr (accumulating x place v m)
  accumulating_lawful place v h m = completed_lawful (to_register h) i.sr_lawful onward_lawful i.link_lawful is_running_lem

  jumping_lawful : (place v to : ℕ) → Register place → Multiple to → Lawful x.picsr (jumping x place v to)
  jumping_lawful place v to h m =
      completed_lawful (to_register h) i.sr_lawful
      (record { delay_bit = omega arith; pc_multiple = next_multiple 4 refl; target_multiple = m; no_target = λ e. absurd (omega arith) })
      i.link_lawful is_running_lem

  pub jump_lawful : (place v to : ℕ) → Register place → Multiple to → Lawful x.picsr (jump x place v to)
  unfolding jump
  jump_lawful place v to h m = if_both (Lawful x.picsr) (in_slot x) (faults_lawful _ _) (jumping_lawful place v to h m)

  pub branch_lawful : Multiple x.immediate → (taken : Bool) → Lawful x.picsr (branch x taken)
  unfolding branch
  branch_lawful m taken =
      jump_lawful 0 0 _ (omega arith) (if_both Multiple taken (next_multiple x.immediate m) (next_multiple 8 refl))

  pub register_jump_lawful : (place v : ℕ) → Register place → Lawful x.picsr (register_jump x place v)
  unfolding register_jump
  register_jump_lawful place v h =
      if_both (Lawful x.picsr) (in_slot x) (faults_lawful _ _)
      (if_law (Lawful x.picsr) (ltb 0 (x.b % 4)) (λ _. faults_lawful Alignment x.b)
      (λ e. let l : x.b % 4 ≤ 0 = ltb-false _ _ e in jumping_lawful place v x.b h (omega arith)))

  pub return_lawful : Lawful x.picsr (returns x)
  unfolding returns
  return_lawful =
      if_both (Lawful x.picsr) (in_slot x) (faults_lawful _ _)
      (completed_lawful (to_register (omega arith)) i.esr_lawful (straight _ i.epcr_lawful) i.link_lawful is_running_lem)

  pub load_lawful : (mem : List ℕ) (n : ℕ) (sign : Bool) → Lawful x.picsr (load x mem n sign)
  unfolding load
  load_lawful mem n sign = reaches_law (Lawful x.picsr) x n no_limit (length mem) (λ g. writes_lawful _) faults_lawful

  pub load_linked_lawful : (mem : List ℕ) → Lawful x.picsr (load_linked x mem)
  unfolding load_linked
  load_linked_lawful mem =
      reaches_law (Lawful x.picsr) x 4 no_limit (length mem)
      (λ g.
      completed_lawful (to_register i.register) i.sr_lawful onward_lawful
      (record { held_bit = omega arith; address_multiple = granted_aligned 4 no_limit (length mem) _ g; no_address = λ e. absurd (omega arith) })
      is_running_lem)
      faults_lawful

  pub store_lawful : (limit len : ℕ) (w : Width) → Lawful x.picsr (store limit x len w)
  unfolding store
  store_lawful limit len w =
      reaches_law (Lawful x.picsr) x (bytes w) limit len
      (λ g. completed_lawful (to_register (omega arith)) i.sr_lawful onward_lawful i.link_lawful is_running_lem)
      faults_lawful

  pub store_conditional_lawful : (limit len : ℕ) → Lawful x.picsr (store_conditional limit x len)
  unfolding store_conditional
  store_conditional_lawful limit len =
      reaches_law (Lawful x.picsr) x 4 limit len
      (λ g.
      completed_lawful (to_register (omega arith)) (allowed_flag x.sr i.sr_lawful (linked x)) onward_lawful
      no_link_lawful is_running_lem)
      faults_lawful

  pub touch_lawful : (len : ℕ) → Lawful x.picsr (touch x len)
  unfolding touch
  touch_lawful len = reaches_law (Lawful x.picsr) x 1 no_limit len (λ g. nothing_lawful) faults_lawful

  pub special_lawful : (n v : ℕ) → Lawful x.picsr (sets_special_register x n v)
  unfolding sets_special_register
  special_lawful n v =
      if_both (Lawful x.picsr) (eqb n 17) (advances_lawful 0 0 _ (to_register (omega arith)) (allowed_again v)) (
      if_both (Lawful x.picsr) (eqb n 32) (advances_lawful epcr_at (aligned v) _ (to_epcr (aligned_multiple v)) i.sr_lawful) (
      if_both (Lawful x.picsr) (eqb n 48) (advances_lawful eear_at v _ to_eear i.sr_lawful) (
      if_both (Lawful x.picsr) (eqb n 64) (advances_lawful esr_at _ _ (to_esr (allowed_again v)) i.sr_lawful) (
      if_both (Lawful x.picsr) (eqb n 0x2801) (advances_lawful maclo_at v _ to_maclo i.sr_lawful) (
      if_both (Lawful x.picsr) (eqb n 0x2802) (advances_lawful machi_at v _ to_machi i.sr_lawful) (
      if_both (Lawful x.picsr) (eqb n 0x4800) (advances_lawful picmr_at _ _ (to_picmr (mask_again v)) i.sr_lawful) (
      if_both (Lawful x.picsr) (eqb n 0x4802) (advances_lawful picsr_at _ _ (to_picsr (and_le_l x.picsr v)) i.sr_lawful) (
      nothing_lawful))))))))

  -- ---- every instruction: a jump or branch by its immediate needs a multiple of 4

  pub meaning_lawful : (board : Board) (mem : List ℕ) (k : ℕ) → (IsBranch k → Multiple x.immediate) → Lawful x.picsr (meaning board mem k x)
  meaning_lawful board mem k m =
      meaning_has (Lawful x.picsr) (Multiple x.immediate) board mem x
      record {
        of_writes = writes_lawful;
        of_nothing = nothing_lawful;
        of_flag = flag_lawful;
        of_nop = nop_lawful;
        of_illegal = faults_lawful _ _;
        of_trap = faults_lawful _ _;
        of_syscall = syscall_lawful;
        of_result = result_lawful;
        of_divides = divides_lawful;
        of_accumulates = accumulating_lawful 0 0 (omega arith);
        of_reads_accumulator = accumulating_lawful x.d _ i.register _;
        of_jump = λ j place v h. jump_lawful place v _ h (next_multiple x.immediate j);
        of_branch = branch_lawful;
        of_register_jump = register_jump_lawful;
        of_return = return_lawful;
        of_load = load_lawful mem;
        of_load_linked = load_linked_lawful mem;
        of_store = store_lawful board.limit (length mem);
        of_store_conditional = store_conditional_lawful board.limit (length mem);
        of_touch = touch_lawful (length mem);
        of_special = special_lawful;
      }
      k m
