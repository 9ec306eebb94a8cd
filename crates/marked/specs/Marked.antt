-- Document 01, "Marked examples at the edges", in its order.
use Rattle.std.specs.Prelude.{Bool, true, false, ◌&&◌, List, [], ◌∷◌, ℕ, zero, suc, ◌+◌, ◌^◌, eqb, ltb, if◌then◌else◌}
use Rattle.std.proofs.Math.Option.{Option, none, some}
use Rattle.bits.specs.Word.{bit, field}
use Rattle.isa.specs.InstructionSet.{decode}
use Rattle.codec.specs.Encoding.{encode, number}
use Rattle.isa.specs.Vectors.{old_vector, old_vectors}
use Rattle.isa.specs.declared.vectors.Cause.{Cause}
use Rattle.isa.specs.declared.vectors.Cause.TheVariants.{Bus, Alignment}
use Rattle.arith.specs.Sums.{sum, difference}
use Rattle.arith.specs.Compare.{holds}
use Rattle.arith.specs.Place.{least}
use Rattle.arith.specs.Status.{DSX}
use Rattle.memory.specs.Memory.{no_limit, access}
use Rattle.effect.specs.State.{state_words, pc_at, sr_at, epcr_at, eear_at, esr_at, mode_at, running}
use Rattle.commit.specs.Commit.{word_at, put, states_after, memory_after}
use Rattle.semantics.specs.Meaning.{effect_of}

pub data Example : Type 0 where
  -- a word is that entry, and the entry encodes to a word that decodes to it
  word_is_entry : ℕ → ℕ → Example
  word_is_kind : ℕ → ℕ → Example
  word_has_immediate : ℕ → ℕ → Example
  -- a + b: its value; its CY and OV
  sum_is : ℕ → ℕ → ℕ → Example
  sum_flags : ℕ → ℕ → ℕ → ℕ → Example
  -- a - b: its CY and OV
  difference_flags : ℕ → ℕ → ℕ → ℕ → Example
  -- the compare at a place of the set-flag order, of a against b
  compare_is : ℕ → ℕ → ℕ → Bool → Example
  ff1_is : ℕ → ℕ → Example
  -- an access of n bytes in a memory of that length at an address: the cause of the exception that it raises, if it raises one
  access_is : ℕ → ℕ → ℕ → Option Cause → Example
  -- words executed one after the other on a memory of that many bytes, from reset at address 100 with r3 as given: then the word of the state at
  -- a place is that number
  run_leaves : ℕ → ℕ → List ℕ → ℕ → ℕ → Example

abbrev same : Bool → Bool → Bool
same a b = if a then b else if b then false else true

-- the vector of an exception, by which causes are told apart; 0 is none
abbrev vector_of : Option Cause → ℕ
vector_of none = 0
vector_of (some cause) = old_vector cause

abbrev zeros : ℕ → List ℕ
zeros zero = []
zeros (suc n) = 0 ∷ zeros n

-- "Reset: PC the entry, SR and ESR 00008001, mode 3, the rest 0", but for r3
abbrev reset : ℕ → List ℕ
reset r3 = put (put (put (put (put (zeros state_words) 0 pc_at 0x100) 0 sr_at 0x8001) 0 esr_at 0x8001) 0 mode_at running) 0 3 r3

-- the state of core 0 of 1 after these words, each executed where the last left it
abbrev executed : List ℕ → List ℕ → List ℕ → List ℕ
executed mem s [] = s
executed mem s (w ∷ ws) =
    let e = effect_of (record { cores = 1; limit = no_limit; vectors = old_vectors }) mem s 0 (decode w) in executed (memory_after mem e) (states_after old_vectors s 0 e) ws

-- the definitions agree with the example
abbrev pub right : Example → Bool
right (word_is_entry w e) =
    eqb (decode w) e && (ltb (number (encode e)) (2 ^ 32) && eqb (decode (number (encode e))) e)
right (word_is_kind w k) = eqb (field (decode w) 56 8) k
right (word_has_immediate w n) = eqb (field (decode w) 0 32) n
right (sum_is a b v) = eqb (sum a b false).value v
right (sum_flags a b cy ov) = eqb (bit (sum a b false).carry) cy && eqb (bit (sum a b false).overflow) ov
right (difference_flags a b cy ov) = eqb (bit (difference a b).carry) cy && eqb (bit (difference a b).overflow) ov
right (compare_is n a b t) = same (holds n a b) t
right (ff1_is x n) = eqb (least 32 x) n
right (access_is n len at a) = eqb (vector_of (access n no_limit len at)) (vector_of a)
right (run_leaves len r3 ws place v) = eqb (word_at (executed (zeros len) (reset r3) ws) 0 place) v

abbrev pub gts : ℕ
gts = 6

abbrev pub gtu : ℕ
gtu = 2

-- l.lwz r4, 0(r3); l.bf 16, with F 0; a word that no row fits
abbrev pub lwz : ℕ
lwz = 0x84830000

abbrev pub untaken_branch : ℕ
untaken_branch = 0x10000004

abbrev pub illegal_word : ℕ
illegal_word = 0xfc000000

abbrev pub marked : List Example
marked =
    word_is_entry 0x9c600005 0x17000c0000000005 ∷  -- M1
    word_is_entry 0xe0841800 0x3000108300000000 ∷  -- M2
    word_is_kind 0x03ffffff 2 ∷  -- M3
    word_has_immediate 0x03ffffff 0xfffffffc ∷
    word_is_kind 0x48004800 1 ∷  -- M4
    sum_flags 0x7fffffff 1 0 1 ∷  -- M5
    sum_is 0xffffffff 1 0 ∷  -- M6
    sum_flags 0xffffffff 1 1 0 ∷
    difference_flags 0 1 1 0 ∷  -- M7
    difference_flags 0x80000000 1 0 1 ∷  -- M8
    compare_is gts 0x80000000 0x7fffffff false ∷  -- M9
    compare_is gtu 0x80000000 0x7fffffff true ∷
    ff1_is 0x80000000 32 ∷  -- M10
    access_is 4 4096 4092 none ∷  -- M11
    access_is 4 4096 4094 (some Alignment) ∷
    access_is 4 4096 4096 (some Bus) ∷
    run_leaves 4096 4092 (lwz ∷ []) pc_at 0x104 ∷  -- M11 through the step
    run_leaves 4096 4094 (lwz ∷ []) pc_at (old_vector Alignment) ∷
    run_leaves 4096 4094 (lwz ∷ []) eear_at 4094 ∷
    run_leaves 4096 4096 (lwz ∷ []) pc_at (old_vector Bus) ∷
    run_leaves 4096 0 (untaken_branch ∷ illegal_word ∷ []) epcr_at 0x100 ∷  -- M12
    run_leaves 4096 0 (untaken_branch ∷ illegal_word ∷ []) sr_at (0x8001 + 2 ^ DSX) ∷
    []

abbrev pub every : (Example → Bool) → List Example → Bool
every f [] = true
every f (x ∷ xs) = f x && every f xs
