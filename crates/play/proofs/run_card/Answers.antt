use Prim.Native.Nat.{ℕ}
use mathlib.Core.Path.{ap, ◌∙◌}
use native.Mathlib.Omega.{arith}
use Rattle.report.specs.Answer.{result_room, refusal_room}
use Rattle.report.specs.Result.{cores, refusal_text}
use Rattle.play.proofs.Printing.{no_room, printed, printed_as}
use Rattle.play.proofs.run_card.Goals as goal

pub returns-then-out-lt-ROOM : goal.returns-then-out-lt-ROOM
returns-then-out-lt-ROOM c = no_room _ _ (omega arith)

pub returns-in-Ok : goal.returns-in-Ok
returns-in-Ok c =
    let w = c.write_result in
    let k = c.in-Ok.ensures.few_cores in
    printed_as c.in-Ok.ensures.text
    (printed (result_room (cores c.in-Ok.ran.states.now)) _ _ _ _ (omega arith) (omega arith) w.ensures.answered w.ensures.left w.auto.out)

pub returns-in-Err : goal.returns-in-Err
returns-in-Err c =
    let w = c.write_refusal in
    printed_as (ap (λ (n : ℕ). refusal_text n c.in-Err.refused.line) c.from.ensures ∙ c.in-Err.ensures.text)
    (printed refusal_room _ _ _ _ (omega arith) (omega arith) w.ensures.answered w.ensures.left w.auto.out)
