use Prim.Native.Nat.{◌+◌}
use lib.ListN.{drop, get_or, drop_of_length-le}
use native.Mathlib.Omega.{arith}
use Rattle.std.proofs.Common.{rules}
use Rattle.print.specs.Inner.{Puts}
use Rattle.print.proofs.Stores.{rest_put, rest_room, rest_none}
use Rattle.report.specs.Result.{register_line, register_lines}
use Rattle.report.proofs.Lines.{next_register, no_register, fits_below}
use Rattle.report.proofs.put_registers.Goals as goal

pub put_register-requires : goal.put_register-requires
put_register-requires c =
    let l = c.loop-number in
    let v = c.args.values.now in
    let room = rest_room (register_line l.number (get_or v l.number 0)) (register_lines (l.number + 1) (drop (l.number + 1) v)) l.invariant
    (next_register v l.number c.loop-number-test.true) c.requires in
    fits_below l.w l.number (search rules) room

pub loop-number-preserved : goal.loop-number-preserved
loop-number-preserved c =
    let l = c.loop-number in
    let v = c.args.values.now in
    let put = c.put_register.ensures in
    let put : Puts l.w (register_line l.number (get_or v l.number 0)) c.put_register.new.w = search (rules, put) in
    rest_put (register_lines (l.number + 1) (drop (l.number + 1) v)) l.invariant (next_register v l.number c.loop-number-test.true) put

pub returns : goal.returns
returns c =
    let l = c.loop-number in
    let v = c.args.values.now in
    rest_none l.invariant (no_register l.number (drop l.number v) (drop_of_length-le v (omega arith)))
