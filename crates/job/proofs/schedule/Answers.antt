use Prim.Native.Nat.{◌+◌, ◌-◌}
use mathlib.Core.Path.{◌≡◌, refl, sym, ap, ◌∙◌}
use mathlib.Core.List.{map}
use native.Mathlib.Omega.{arith}
use lib.ListN.{take, drop, set, length-set}
use Rattle.text.specs.Digits.{digit}
use lib.Seq.{sets}
use Rattle.job.specs.Job.{entries}
use Rattle.job.proofs.Laws.{entries_step, digit_at}
use Rattle.job.proofs.schedule.Goals as goal

pub loop-i-init : goal.loop-i-init
unfolding entries
loop-i-init c = record { same = refl; whole = refl }

pub loop-i-preserved : goal.loop-i-preserved
loop-i-preserved c =
    let l = c.loop-i in
    let a = c.args in
    let s = map digit (take a.job.digits (drop a.job.schedule a.card.now)) in
    let n = a.job.digits in
    let from = a.job.schedule in
    let m : from + n - from ≡ n = omega arith in
    record {
      same = ap (λ k. set k l.i c.digit.result) l.invariant.same
          ∙ ap (set (sets a.out.now 0 (entries s l.i)) l.i) (c.digit.ensures ∙ rw m (sym (digit_at a.card.now from n l.i (omega arith) (omega arith))))
          ∙ entries_step a.out.now s l.i;
      whole = simp length-set l.invariant.whole;
    }
