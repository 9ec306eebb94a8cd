use Prim.Native.Nat.{◌+◌, ◌-◌, ◌*◌}
use mathlib.Core.Path.{◌≡◌, sym, ap, ◌∙◌}
use mathlib.Core.List.{◌∷◌}
use native.Mathlib.Omega.{arith}
use lib.ListN.{length, drop}
use Rattle.text.specs.Lines.{lines}
use Rattle.card.specs.Answer.{words_from}
use Rattle.memory.proofs.Laws.{length_stored}
use Rattle.job.specs.Job.{filled}
use Rattle.job.proofs.Laws.{fill_none, fill_step, from_value, from_fault, from_none}
use Rattle.job.proofs.fill.Goals as goal

pub store-requires : goal.store-requires
store-requires c =
    let l = c.loop-i in
    let a = c.args in
    let e = ap length (from_value (a.n - l.i) a.card.now l.at c.word_at.ensures.0 (omega arith) c.in-Ok.is) in
    omega arith

pub loop-i-preserved : goal.loop-i-preserved
loop-i-preserved c =
    let l = c.loop-i in
    let a = c.args in
    let w = c.in-Ok.word in
    let ws = words_from (a.n - (l.i + 1)) (lines (drop c.in-Ok.next a.card.now)) in
    let m : a.n - l.i - 1 ≡ a.n - (l.i + 1) = omega arith in
    let f : words_from (a.n - l.i) (lines (drop l.at a.card.now)) ≡ w ∷ ws = rw m at (from_value (a.n - l.i) a.card.now l.at c.word_at.ensures.0 (omega arith) c.in-Ok.is) in
    let e = ap length f in
    let p = c.store.ensures in
    let n = ap length p ∙ length_stored 4 l.image (4 * l.i) w in
    let k : 4 * (l.i + 1) ≡ 4 * l.i + 4 = omega arith in
    record {
      same = rw k (ap (λ m. filled m (4 * l.i + 4) ws) p) ∙ sym (ap (filled l.image (4 * l.i)) f ∙ fill_step l.image (4 * l.i) w ws) ∙ l.invariant.same;
      room = omega arith;
      whole = n ∙ l.invariant.whole;
    }

pub returns-in_default : goal.returns-in_default
returns-in_default c =
    let l = c.loop-i in
    let a = c.args in
    let e = from_fault (a.n - l.i) a.card.now l.at c.word_at.ensures.0 c.in_default.is in
    sym (ap (filled l.image (4 * l.i)) e ∙ fill_none l.image (4 * l.i)) ∙ l.invariant.same

pub returns : goal.returns
returns c =
    let l = c.loop-i in
    let a = c.args in
    let e = from_none (a.n - l.i) (lines (drop l.at a.card.now)) (omega arith) in
    sym (ap (filled l.image (4 * l.i)) e ∙ fill_none l.image (4 * l.i)) ∙ l.invariant.same
