use native.Mathlib.Omega.{arith}
use mathlib.Core.Path.{◌≡◌, ◌∙◌}
use lib.ListN.{length-set}
use Rattle.print.specs.Digits.{digits}
use Rattle.print.proofs.Stores.{puts_of, digits_put, no_digits}
use Rattle.print.proofs.Places.{length_digits}
use Rattle.print.proofs.Writer.put_digits.Goals as goal

pub loop-i-preserved : goal.loop-i-preserved
loop-i-preserved c =
    let a = c.args in
    let l = c.loop-i in
    record {
      same_reference = l.invariant.same_reference;
      same_place = l.invariant.same_place;
      kept = simp length-set l.invariant.kept;
      stored = rw c.glyph.ensures (digits_put l.self.out.now l.self.at a.base l.i l.rest (omega arith)) ∙ l.invariant.stored;
    }

pub returns : goal.returns
returns c =
    let a = c.args in
    let l = c.loop-i in
    let z : l.i ≡ 0 = omega arith in
    puts_of (digits a.base a.k a.n) l.invariant.same_reference
    (no_digits l.self.out.now l.self.at a.base l.i l.rest z ∙ l.invariant.stored) (rw length_digits (omega arith))
