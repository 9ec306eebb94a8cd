-- What the operations of instructions do: document 01, "One instruction"; document 02, notes 1, 2, 4 and 5. Each is an effect of what its instruction reads, x : Inputs.
use Rattle.std.specs.Prelude.{Bool, ◌&&◌, List, Some, None, ℕ, ◌*◌, ◌%◌, eqb, ltb, length, if◌then◌else◌, true, false}
use Rattle.std.proofs.Math.Option.{Option, none, some}
use Rattle.std.specs.Int.Bits.{bit_and, bit_or}
use Rattle.bits.specs.Word.{extend}
use Rattle.isa.specs.declared.vectors.Cause.{Cause}
use Rattle.isa.specs.declared.vectors.Cause.TheVariants.{Alignment, Illegal, Syscall, Trap}
use Rattle.arith.specs.Bit.{is_set, set_bit}
use Rattle.arith.specs.Status.{F, OVE, allowed, aligned, set_carry_overflow}
use Rattle.arith.specs.Sums.{address_sum}
use Rattle.arith.specs.declared.Flagged.{Flagged}
use Rattle.memory.specs.Memory.{bytes, loaded, no_limit, access}
use Rattle.memory.specs.declared.Width.{Width}
use Rattle.memory.specs.declared.Width.TheVariants.{Word}
use Rattle.product.specs.declared.Accumulator.{Accumulator}
use Rattle.effect.specs.State.{epcr_at, eear_at, esr_at, machi_at, maclo_at, picmr_at, picsr_at}
use Rattle.effect.specs.Effect.{in_slot, advances, halting, faults, raises_range, jumping, returning, linking, saving, unlinking, accumulating, reading_accumulator}
use Rattle.effect.specs.declared.types.Inputs.{Inputs}
use Rattle.effect.specs.declared.types.Store.{Store}
use Rattle.effect.specs.declared.types.Effect.{Effect}

-- v goes to rD
abbrev pub writes : Inputs → ℕ → Effect
writes x v = advances x x.d v x.sr

abbrev pub nothing : Inputs → Effect
nothing x = advances x 0 0 x.sr

-- the set-flag instructions
unfoldable pub sets_flag : Inputs → Bool → Effect
sets_flag x t = advances x 0 0 (set_bit F t x.sr)

-- "l.nop with immediate 1 advances, then halts its core; other nops and the syncs only advance."
unfoldable pub nop : Inputs → Effect
nop x = if eqb x.immediate 1 then halting x else nothing x

-- ---- exceptions

-- "illegal its own": the address that EEAR gets
abbrev pub illegal : Inputs → Effect
illegal x = faults x Illegal x.flow.pc

-- "l.trap always raises."
abbrev pub trap : Inputs → Effect
trap x = faults x Trap x.eear

-- "A jump, branch, l.rfe or l.sys in a slot is illegal, before any other check on it."
abbrev pub outside_slot : Inputs → Effect → Effect
outside_slot x e = if in_slot x then illegal x else e

unfoldable pub syscall : Inputs → Effect
syscall x = outside_slot x (faults x Syscall x.eear)

-- ---- results with flags

abbrev pub flags : Inputs → Flagged → ℕ
flags x f = set_carry_overflow f.carry f.overflow x.sr

-- "add, addc and sub with OV and SR[OVE] both 1 raise range after rD and flags are written." Document 02, note 1: "From here l.addi and l.addic raise
-- range on OV with OVE, after rD and flags are written, as l.add does." Note 2: "mul and muli raise range on OV with OVE, after rD and flags are
-- written, as l.add does."
unfoldable pub result_or_raises : Inputs → Flagged → Effect
result_or_raises x f =
    if is_set OVE x.sr && f.overflow then raises_range x x.d f.value (flags x f) else
    advances x x.d f.value (flags x f)

-- ---- divisions

-- "A zero divisor sets CY, keeps rD and raises range under OVE;" "both divisions set OV to 0."
abbrev pub divides_by_zero : Inputs → Effect
divides_by_zero x =
    if is_set OVE x.sr then raises_range x 0 0 (set_carry_overflow true false x.sr) else
    advances x 0 0 (set_carry_overflow true false x.sr)

-- "other divisors clear CY." q is the quotient by rB
unfoldable pub divides : Inputs → ℕ → Effect
divides x q = if eqb x.b 0 then divides_by_zero x else advances x x.d q (set_carry_overflow false false x.sr)

-- ---- the accumulator

-- MACHI and MACLO become m
abbrev pub accumulates : Inputs → Accumulator → Effect
accumulates x m = accumulating x 0 0 m

-- l.macrc
abbrev pub reads_accumulator : Inputs → Effect
reads_accumulator x = reading_accumulator x

-- ---- jumps

-- v goes to place, and execution goes on at `to` after the slot
unfoldable pub jump : Inputs → ℕ → ℕ → ℕ → Effect
jump x place v to = outside_slot x (jumping x place v to)

abbrev pub relative : Inputs → ℕ
relative x = address_sum x.flow.pc x.immediate

-- the slot + 4: "jal and jalr put slot + 4 in r9."
abbrev pub after_slot : Inputs → ℕ
after_slot x = address_sum x.flow.pc 8

-- "An untaken branch has a slot too, with target slot + 4."
unfoldable pub branch : Inputs → Bool → Effect
branch x taken = jump x 0 0 (if taken then relative x else after_slot x)

-- "jr and jalr to an address that is no multiple of 4 raise alignment at the jump and write no link."
unfoldable pub register_jump : Inputs → ℕ → ℕ → Effect
register_jump x place v = outside_slot x (if ltb 0 (x.b % 4) then faults x Alignment x.b else jumping x place v x.b)

-- "l.rfe sets PC to EPCR and SR to ESR": outside a slot
unfoldable pub returns : Inputs → Effect
returns x = outside_slot x (returning x)

-- ---- memory

abbrev pub effective_address : Inputs → ℕ
effective_address x = address_sum x.a x.immediate

-- what an access does, or the exception that its test raises (`access` in memory's definitions)
abbrev pub granted : Inputs → Option Cause → ℕ → Effect → Effect
granted x none at e = e
granted x (some cause) at e = faults x cause at

abbrev pub reaches : Inputs → ℕ → ℕ → ℕ → Effect → Effect
reaches x n limit len e = granted x (access n limit len (effective_address x)) (effective_address x) e

-- a load of n bytes, sign- or zero-extended
unfoldable pub load : Inputs → List ℕ → ℕ → Bool → Effect
load x mem n sign = reaches x n no_limit (length mem) (writes x (extend sign (8 * n) (loaded n mem (effective_address x))))

-- l.lwa
unfoldable pub load_linked : Inputs → List ℕ → Effect
load_linked x mem = reaches x 4 no_limit (length mem) (linking x x.d (loaded 4 mem (effective_address x)) (effective_address x))

-- the low bytes of rB, as many as the width says, at the address
abbrev pub storing : Inputs → Width → Store
storing x w = record { width = w; address = effective_address x; value = x.b }

-- Stores and l.swa. Document 02, note 5: "Any store or l.swa reaching below it raises bus error after alignment and before the link test, writes no memory and
-- clears no other core's link." (An exception has no store, and the link is looked at by what the test grants.)
unfoldable pub store : ℕ → Inputs → ℕ → Width → Effect
store limit x len w = reaches x (bytes w) limit len (saving x (storing x w))

-- "l.swa, after both checks, stores and sets F if the link is to that word, else clears F; it clears its own link either way."
abbrev pub linked : Inputs → Bool
linked x = eqb x.link.held 1 && eqb x.link.address (effective_address x)

unfoldable pub store_conditional : ℕ → Inputs → ℕ → Effect
store_conditional limit x len = reaches x 4 limit len (unlinking x (linked x) (if linked x then Some (storing x Word) else None))

-- "p.* tests its one byte and does no more."
unfoldable pub touch : Inputs → ℕ → Effect
touch x len = reaches x 1 no_limit len (nothing x)

-- ---- special-purpose registers

-- "17 SR, 32 EPCR, 48 EEAR, 64 ESR; 128 core number and 129 core count are read-only. Others read 0; writes are ignored." Document 02, note 2, of MACHI
-- and MACLO: "their SPRs are 2802 and 2801 hexadecimal." Note 4: "PICMR is SPR 4800 hexadecimal, .. PICSR is 4802"
unfoldable pub special_register : ℕ → Inputs → ℕ → ℕ
special_register cores x n =
    if eqb n 17 then x.sr else
    if eqb n 32 then x.epcr else
    if eqb n 48 then x.eear else
    if eqb n 64 then x.esr else
    if eqb n 128 then x.core else
    if eqb n 129 then cores else
    if eqb n 0x2801 then x.accumulator.low else
    if eqb n 0x2802 then x.accumulator.high else
    if eqb n 0x4800 then x.picmr else
    if eqb n 0x4802 then x.picsr else
    0

-- "Bits that SR or ESR may not have, and EPCR's low two, are dropped; bit 15 stays 1." Document 02, note 4, of PICMR: "its bits 0 and 1 always 1"; of PICSR:
-- "a write to it keeps the bits set in it and in the value."
unfoldable pub sets_special_register : Inputs → ℕ → ℕ → Effect
sets_special_register x n v =
    if eqb n 17 then advances x 0 0 (allowed v) else
    if eqb n 32 then advances x epcr_at (aligned v) x.sr else
    if eqb n 48 then advances x eear_at v x.sr else
    if eqb n 64 then advances x esr_at (allowed v) x.sr else
    if eqb n 0x2801 then advances x maclo_at v x.sr else
    if eqb n 0x2802 then advances x machi_at v x.sr else
    if eqb n 0x4800 then advances x picmr_at (bit_or v 3) x.sr else
    if eqb n 0x4802 then advances x picsr_at (bit_and x.picsr v) x.sr else
    nothing x
