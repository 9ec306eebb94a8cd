use Prim.Native.Nat.{◌+◌, ◌<◌}
use mathlib.Core.Path.{◌≡◌, ap, sym, ◌∙◌}
use native.Mathlib.Omega.{arith}
use lib.ListN.{length, drop, set}
use Rattle.std.proofs.Common.{rules, Ok, Err}
use Rattle.card.specs.Answer.{header_lines, before_schedule}
use Rattle.card.specs.Inner.{step_in, header, rows_from}
use Rattle.card.proofs.Laws.{rows_next, rows_stop, rows_done, bound_set}
use Rattle.card.proofs.read_header.Goals as goal

pub returns-in_err-value : goal.returns-in_err-value
returns-in_err-value c =
    let l = c.loop-i in
    let card = c.args.card.now in
    let r = c.in_err-value.field-0.0 in
    let f : c.line_at.result ≡ Err r.cause = search rules in
    let n : r.line ≡ l.i + 1 = search rules in
    let z : c.from_residual.result ≡ Err r = search rules in
    let e = sym c.line_at.ensures.0 ∙ ap (step_in card) f in
    rw (z, n) (sym (l.invariant.same ∙ rows_stop card header l.at l.i l.lines (omega arith) e))

pub loop-i-preserved : goal.loop-i-preserved
loop-i-preserved c =
    let l = c.loop-i in
    let card = c.args.card.now in
    let x : c.line_at.result ≡ Ok (c.in_ok-value.value, c.in_ok-value.next) = search rules in
    let e = sym c.line_at.ensures.0 ∙ ap (step_in card) x in
    let ahead = rw x at c.line_at.ensures.1 in
    let due : l.i < length header = omega arith in
    record {
      same = l.invariant.same ∙ rows_next card header l.at l.i l.lines due e
          ∙ ap (λ n. rows_from card (drop (l.i + 1) header) n (l.i + 1) (set l.lines l.i (record { value = c.in_ok-value.value; at = l.at }))) (sym ahead.0);
      inside = bound_set l.lines l.i before_schedule (record { value = c.in_ok-value.value; at = l.at }) (length card) l.invariant.inside (omega arith);
    }

pub returns : goal.returns
returns c =
    let l = c.loop-i in
    let card = c.args.card.now in
    let all : l.i ≡ header_lines = omega arith in
    sym (l.invariant.same ∙ rows_done card header l.at l.i l.lines (omega arith) ∙ rw all)
