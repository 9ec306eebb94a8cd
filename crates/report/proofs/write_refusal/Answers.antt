use mathlib.Core.Path.{ap, ◌∙◌}
use lib.ListN.{length}
use Rattle.std.proofs.Common.{rules}
use native.Mathlib.Omega.{arith}
use Rattle.report.specs.Answer.{refusal_room}
use Rattle.report.specs.Result.{refusal_text}
use Rattle.report.proofs.Room.{refusal_le, too_small, fits}
use Rattle.report.proofs.write_refusal.Goals as goal

pub returns-then-out-lt-REFUSAL_ROOM : goal.returns-then-out-lt-REFUSAL_ROOM
returns-then-out-lt-REFUSAL_ROOM c =
    let a = c.args in
    let e = too_small refusal_room (refusal_text a.number a.line) a.out.now (omega arith) in
    record { answered = e.0; left = e.1 }

pub put_refusal-requires : goal.put_refusal-requires
put_refusal-requires c =
    let l = refusal_le c.args.number c.args.line (omega arith) (omega arith) in
    let b = ap length c.new-w.ensures.bytes in
    omega arith

pub returns : goal.returns
returns c =
    let l = refusal_le c.args.number c.args.line (omega arith) (omega arith) in
    let e = fits refusal_room c.new-w.ensures.bytes c.new-w.ensures.start (omega arith) l c.put_refusal.ensures in
    record { answered = rw c.len.ensures e.0; left = ◌∙◌ {b = c.put_refusal.new.w.out.now} (search rules) e.1 }
