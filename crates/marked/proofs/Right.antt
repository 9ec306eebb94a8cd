-- The definitions agree with every marked example: one computed test over their list. Assumes nothing.
use lib.Dec.{T}
use Rattle.bits.specs.Word.{signed, word, extend}
use Rattle.isa.specs.InstructionSet.{rows, fits, first_fit, width, read, immediate, entry, decode, row_of, kind_row, fill, value, immediate_bits, word_for, candidate}
use Rattle.codec.specs.Encoding.{encode}
use Rattle.arith.specs.Bit.{set_bit}
use Rattle.arith.specs.Status.{exception_sr}
use Rattle.arith.specs.Sums.{address_difference, sum, difference, fits as fits_signed}
use Rattle.arith.specs.Compare.{holds}
use Rattle.arith.specs.Place.{least}
use Rattle.memory.specs.Memory.{access, loaded, stored}
use Rattle.effect.specs.Effect.{onward, advances, restart, raises}
use Rattle.action.specs.Operations.{jump, branch, load}
use Rattle.commit.specs.Commit.{inputs, put_value, put_flow, put_status, put_accumulated, put_exception, own_state, clear_link, clear_links, states_after, memory_after}
use Rattle.semantics.specs.Meaning.{branches, loads, meaning}
use Rattle.marked.specs.Marked.{right, every, marked}

pub all_right : T (every right marked)
unfolding signed word rows fits first_fit width read immediate entry decode row_of kind_row fill value immediate_bits word_for candidate encode sum
    difference fits_signed holds least access loaded stored extend set_bit exception_sr address_difference onward advances restart raises jump branch load
    branches loads meaning inputs put_value put_flow put_status put_accumulated put_exception own_state clear_link clear_links states_after memory_after
all_right = tt
