-- What each kind does, a line a kind, in the order of document 01's "Words and kinds" and document 02's note 2, by the groups of isa/specs/Groups.antt. k is the kind, x what the
-- instruction reads.
use Rattle.std.specs.Prelude.{true, false, not, List, [], ◌∷◌, ℕ, ◌-◌, eqb, ltb, length, if◌then◌else◌}
use Rattle.std.specs.Int.Bits.{bit_and, bit_or, bit_xor}
use Rattle.bits.specs.Word.{extend}
use Rattle.isa.specs.Entry.{kind_of_entry, fields_of}
use Rattle.isa.specs.Groups.{first_nop_movhi, first_control, first_load, first_add_immediate, first_immediate, first_compare_immediate, first_store, first_arithmetic, first_logic, first_compare, first_cache, first_product}
use Rattle.arith.specs.Bit.{is_set}
use Rattle.arith.specs.Status.{F, CY}
use Rattle.arith.specs.Sums.{sum, difference}
use Rattle.arith.specs.Compare.{holds}
use Rattle.arith.specs.Shift.{shift_left, shift_right, shift_right_signed, rotate_right, high_half}
use Rattle.arith.specs.Place.{least, greatest}
use Rattle.product.specs.Product.{product, product_unsigned, quotient, quotient_unsigned}
use Rattle.product.specs.Accumulate.{added, subtracted}
use Rattle.memory.specs.declared.Width.TheVariants.{Byte, Half, Word}
use Rattle.effect.specs.declared.types.Inputs.{Inputs}
use Rattle.effect.specs.Board.{Board}
use Rattle.effect.specs.declared.types.Effect.{Effect}
use Rattle.action.specs.Operations.{writes, nothing, sets_flag, nop, illegal, trap, syscall, result_or_raises, divides, accumulates, reads_accumulator, jump, relative, after_slot, branch, register_jump, returns, load, load_linked, store, store_conditional, touch, special_register, sets_special_register}
use Rattle.commit.specs.Commit.{inputs}

-- jumps and branches by an immediate; below them kind 1, which is illegal, and no kind
unfoldable pub branches : ℕ → Inputs → Effect
branches k x =
    if eqb k 2 then jump x 0 0 (relative x) else  -- l.j
    if eqb k 3 then jump x 9 (after_slot x) (relative x) else  -- l.jal
    if eqb k 4 then branch x (not (is_set F x.sr)) else  -- l.bnf
    if eqb k 5 then branch x (is_set F x.sr) else  -- l.bf
    illegal x

-- what only goes on, or halts
unfoldable pub nop_movhi : ℕ → Inputs → Effect
nop_movhi k x =
    if eqb k 6 then nop x else  -- l.nop
    if eqb k 7 then writes x (high_half x.immediate) else  -- l.movhi
    illegal x

-- system calls, syncs, the return from an exception, jumps to a register
unfoldable pub control : ℕ → Inputs → Effect
control k x =
    if eqb k 8 then syscall x else  -- l.sys
    if eqb k 9 then trap x else  -- l.trap
    if eqb k 10 then nothing x else  -- l.msync
    if eqb k 11 then nothing x else  -- l.psync
    if eqb k 12 then nothing x else  -- l.csync
    if eqb k 13 then returns x else  -- l.rfe
    if eqb k 14 then register_jump x 0 0 else  -- l.jr
    if eqb k 15 then register_jump x 9 (after_slot x) else  -- l.jalr
    illegal x

-- loads
unfoldable pub loads : List ℕ → ℕ → Inputs → Effect
loads mem k x =
    if eqb k 16 then load_linked x mem else  -- l.lwa
    if eqb k 17 then load x mem 4 false else  -- l.lwz
    if eqb k 18 then load x mem 4 true else  -- l.lws
    if eqb k 19 then load x mem 1 false else  -- l.lbz
    if eqb k 20 then load x mem 1 true else  -- l.lbs
    if eqb k 21 then load x mem 2 false else  -- l.lhz
    if eqb k 22 then load x mem 2 true else  -- l.lhs
    illegal x

-- sums with an immediate
unfoldable pub add_immediates : ℕ → Inputs → Effect
add_immediates k x =
    if eqb k 23 then result_or_raises x (sum x.a x.immediate false) else  -- l.addi
    if eqb k 24 then result_or_raises x (sum x.a x.immediate (is_set CY x.sr)) else  -- l.addic
    illegal x

-- "SPR number (decimal here): rA or K, bitwise."
abbrev pub special_number : Inputs → ℕ
special_number x = bit_or x.a x.immediate

-- logic and shifts with an immediate, and l.mfspr
unfoldable pub immediates : ℕ → ℕ → Inputs → Effect
immediates cores k x =
    if eqb k 25 then writes x (bit_and x.a x.immediate) else  -- l.andi
    if eqb k 26 then writes x (bit_or x.a x.immediate) else  -- l.ori
    if eqb k 27 then writes x (bit_xor x.a x.immediate) else  -- l.xori
    if eqb k 28 then writes x (special_register cores x (special_number x)) else  -- l.mfspr
    if eqb k 29 then writes x (shift_left x.a x.immediate) else  -- l.slli
    if eqb k 30 then writes x (shift_right x.a x.immediate) else  -- l.srli
    if eqb k 31 then writes x (shift_right_signed x.a x.immediate) else  -- l.srai
    if eqb k 32 then writes x (rotate_right x.a x.immediate) else  -- l.rori
    illegal x

-- l.mtspr and the stores
unfoldable pub stores : ℕ → ℕ → ℕ → Inputs → Effect
stores limit len k x =
    if eqb k 43 then sets_special_register x (special_number x) x.b else  -- l.mtspr
    if eqb k 44 then store_conditional limit x len else  -- l.swa
    if eqb k 45 then store limit x len Word else  -- l.sw
    if eqb k 46 then store limit x len Byte else  -- l.sb
    if eqb k 47 then store limit x len Half else  -- l.sh
    illegal x

-- sums and differences of registers
unfoldable pub arithmetic : ℕ → Inputs → Effect
arithmetic k x =
    if eqb k 48 then result_or_raises x (sum x.a x.b false) else  -- l.add
    if eqb k 49 then result_or_raises x (sum x.a x.b (is_set CY x.sr)) else  -- l.addc
    if eqb k 50 then result_or_raises x (difference x.a x.b) else  -- l.sub
    illegal x

-- logic, shifts and extensions of registers
unfoldable pub logic : ℕ → Inputs → Effect
logic k x =
    if eqb k 51 then writes x (bit_and x.a x.b) else  -- l.and
    if eqb k 52 then writes x (bit_or x.a x.b) else  -- l.or
    if eqb k 53 then writes x (bit_xor x.a x.b) else  -- l.xor
    if eqb k 54 then writes x (shift_left x.a x.b) else  -- l.sll
    if eqb k 55 then writes x (shift_right x.a x.b) else  -- l.srl
    if eqb k 56 then writes x (shift_right_signed x.a x.b) else  -- l.sra
    if eqb k 57 then writes x (rotate_right x.a x.b) else  -- l.ror
    if eqb k 58 then writes x (extend true 16 x.a) else  -- l.exths
    if eqb k 59 then writes x (extend true 8 x.a) else  -- l.extbs
    if eqb k 60 then writes x (extend false 16 x.a) else  -- l.exthz
    if eqb k 61 then writes x (extend false 8 x.a) else  -- l.extbz
    if eqb k 62 then writes x x.a else  -- l.extws
    if eqb k 63 then writes x x.a else  -- l.extwz
    if eqb k 64 then writes x (if is_set F x.sr then x.a else x.b) else  -- l.cmov: "takes rA if F, else rB"
    if eqb k 65 then writes x (least 32 x.a) else  -- l.ff1
    if eqb k 66 then writes x (greatest 32 x.a) else  -- l.fl1
    illegal x

-- the set-flag instructions, by their place n in the set-flag order; b is the second operand, a register's value or the immediate
abbrev pub compares : ℕ → Inputs → ℕ → Effect
compares n x b = sets_flag x (holds n x.a b)

-- the cache instructions, which only test their byte
unfoldable pub caches : ℕ → ℕ → Inputs → Effect
caches len k x =
    if eqb k 77 then touch x len else  -- p.cinvalidate
    if eqb k 78 then touch x len else  -- p.cwriteback
    if eqb k 79 then touch x len else  -- p.cflush
    illegal x

-- products, quotients and the accumulator. The immediate of l.muli and l.maci is the entry's, which is sign-extended. l.mulu's OV is 0, so it never raises.
unfoldable pub products : ℕ → Inputs → Effect
products k x =
    if eqb k 80 then result_or_raises x (product x.a x.b) else  -- l.mul
    if eqb k 81 then result_or_raises x (product x.a x.immediate) else  -- l.muli
    if eqb k 82 then result_or_raises x (product_unsigned x.a x.b) else  -- l.mulu
    if eqb k 83 then divides x (quotient x.a x.b) else  -- l.div
    if eqb k 84 then divides x (quotient_unsigned x.a x.b) else  -- l.divu
    if eqb k 85 then accumulates x (added x.accumulator x.a x.immediate) else  -- l.maci
    if eqb k 86 then accumulates x (added x.accumulator x.a x.b) else  -- l.mac
    if eqb k 87 then accumulates x (subtracted x.accumulator x.a x.b) else  -- l.msb
    if eqb k 88 then reads_accumulator x else  -- l.macrc
    illegal x

-- the groups in order, each with the first kind after it
abbrev pub groups : Board → List ℕ → ℕ → Inputs → List (ℕ × Effect)
groups board mem k x =
    (first_nop_movhi, branches k x) ∷
    (first_control, nop_movhi k x) ∷
    (first_load, control k x) ∷
    (first_add_immediate, loads mem k x) ∷
    (first_immediate, add_immediates k x) ∷
    (first_compare_immediate, immediates board.cores k x) ∷
    (first_store, compares (k - first_compare_immediate) x x.immediate) ∷
    (first_arithmetic, stores board.limit (length mem) k x) ∷
    (first_logic, arithmetic k x) ∷
    (first_compare, logic k x) ∷
    (first_cache, compares (k - first_compare) x x.b) ∷
    (first_product, caches (length mem) k x) ∷
    []

-- the first group that ends above k; else e
abbrev pub grouped : ℕ → List (ℕ × Effect) → Effect → Effect
grouped k [] e = e
grouped k (g ∷ gs) e = if ltb k g.0 then g.1 else grouped k gs e

-- The instruction of kind k on memory mem. A number that is no kind is illegal, as kind 1 is.
unfoldable pub meaning : Board → List ℕ → ℕ → Inputs → Effect
meaning board mem k x = grouped k (groups board mem k x) (products k x)

-- the effect of an entry as it stands, whatever word memory holds
abbrev pub effect_of : Board → List ℕ → List ℕ → ℕ → ℕ → Effect
effect_of board mem s core entry = meaning board mem (kind_of_entry entry) (inputs s core (fields_of entry))
