use mathlib.Core.Path.{ap, ◌∙◌}
use lib.ListN.{length}
use Rattle.std.proofs.Common.{rules}
use native.Mathlib.Omega.{arith}
use Rattle.report.specs.Answer.{result_room}
use Rattle.report.specs.Result.{cores, result_text}
use Rattle.report.proofs.Room.{result_le, too_small, fits}
use Rattle.report.proofs.write_result.Goals as goal

pub returns-then-out-lt-ENDS_ROOM : goal.returns-then-out-lt-ENDS_ROOM
returns-then-out-lt-ENDS_ROOM c =
    let a = c.args in
    let e = too_small (result_room (cores a.states.now)) (result_text a.counts a.states.now) a.out.now (omega arith) in
    record { answered = e.0; left = e.1 }

pub put_result-requires : goal.put_result-requires
put_result-requires c =
    let a = c.args in
    let l = result_le a.counts a.states.now (omega arith) (omega arith) (omega arith) (omega arith) (λ i. omega (arith, c.type_inv.states i)) in
    let b = ap length c.new-w.ensures.bytes in
    omega arith

pub returns : goal.returns
returns c =
    let a = c.args in
    let l = result_le a.counts a.states.now (omega arith) (omega arith) (omega arith) (omega arith) (λ i. omega (arith, c.type_inv.states i)) in
    let e = fits (result_room (cores a.states.now)) c.new-w.ensures.bytes c.new-w.ensures.start (omega arith) l c.put_result.ensures in
    record { answered = rw c.len.ensures e.0; left = ◌∙◌ {b = c.put_result.new.w.out.now} (search rules) e.1 }
