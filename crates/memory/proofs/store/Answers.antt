-- The bytes of v, the highest first; of a half those from the third on, of a byte the last.
use Rattle.std.proofs.Common.{◌∙◌, ap, arith, take, drop}
use native.Mathlib.Nat.{div-one}
use Rattle.memory.specs.Memory.{stored}
use Rattle.memory.proofs.Bytes.{part_put}
use Rattle.memory.proofs.store.Goals as goal

pub returns-in-Byte : goal.returns-in-Byte
unfolding stored
returns-in-Byte c = rw (c.in-Byte.is, c.to_be_bytes-bytes.ensures, div-one c.args.v)

pub returns-in-Half : goal.returns-in-Half
returns-in-Half c =
    let a = c.args in
    let h = c.in-Half.is in
    rw h (part_put 2 _ _ _ _ a.v (omega arith) (rw h at c.requires) (c.copy_from_slice.ensures.after ∙ ap (λ l. take 2 (drop 2 l)) c.to_be_bytes-bytes.ensures))

pub returns-in-Word : goal.returns-in-Word
returns-in-Word c =
    let a = c.args in
    let h = c.in-Word.is in
    rw h (part_put 4 _ _ _ _ a.v (omega arith) (rw h at c.requires) (c.copy_from_slice-in-Word.ensures.after ∙ c.to_be_bytes-bytes.ensures))
