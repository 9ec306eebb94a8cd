use Prim.Native.Nat.{◌+◌, ◌-◌, ◌*◌}
use mathlib.Core.Path.{refl, ap, ◌∙◌}
use native.Mathlib.Omega.{arith}
use lib.ListN.{length}
use lib.Seq.{sets, length-sets}
use Rattle.effect.specs.State.{state_words}
use Rattle.job.specs.Job.{reset_state, reset_states}
use Rattle.job.proofs.Laws.{put_sets, reset_step}
use Rattle.job.proofs.reset.Goals as goal

pub loop-i-init : goal.loop-i-init
unfolding reset_states
loop-i-init c = record { same = refl; whole = refl }

pub loop-i-preserved : goal.loop-i-preserved
loop-i-preserved c =
    let l = c.loop-i in
    let a = c.args in
    let p = put_sets (l.i * state_words) (l.i * state_words + state_words - l.i * state_words) l.states c.copy_from_slice.new.self (omega arith) (omega arith) in
    let e = c.copy_from_slice.ensures.after ∙ c.first_state-first.ensures in
    record {
      same = p ∙ ap (sets l.states (l.i * state_words)) e ∙ ap (λ s. sets s (l.i * state_words) (reset_state a.entry a.sr)) l.invariant.same ∙ reset_step a.states.now a.entry a.sr l.i;
      whole = ap length p ∙ length-sets l.states (l.i * state_words) c.copy_from_slice.new.self ∙ l.invariant.whole;
    }
