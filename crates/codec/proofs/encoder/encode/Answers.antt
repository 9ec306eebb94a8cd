use Prim.Native.Nat.{◌/◌, ◌^◌}
use native.Mathlib.Omega.{arith}
use Rattle.codec.proofs.Encodes.{encodes_high, made, made_lt}
use Rattle.isa.proofs.Shapes.{describes}
use borrow.Author.Rules.{rules}
use Rattle.codec.proofs.encoder.encode.Goals as goal

pub returns-then-k-ge-KINDS : goal.returns-then-k-ge-KINDS
returns-then-k-ge-KINDS c = encodes_high c.args.e (omega arith)

pub overflow_add-word : goal.overflow_add-word
overflow_add-word c =
    let e = c.args.e in
    let r = c.parts_of-word in
    let d = describes _ (search rules) r.ensures.1 in
    let f = c.field_word-fields in
    let p = c.unpack in
    record { fits = made_lt e (e / 2 ^ 56) r.result.0 f.result r.result.1 p.result (omega arith) d r.ensures.0 f.ensures p.ensures.0 }

pub checked-requires : goal.checked-requires
checked-requires c =
    let r = c.parts_of-word in
    let d = describes _ (search rules) r.ensures.1 in
    made c.args.e (c.args.e / 2 ^ 56) _ _ _ _ (omega arith) d r.ensures.0 c.field_word-fields.ensures c.unpack.ensures.0
