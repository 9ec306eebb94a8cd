use Prim.Native.Nat.{◌+◌}
use mathlib.Core.Path.{◌≡◌, refl, ap, sym, ◌∙◌}
use mathlib.Core.List.{◌++◌}
use native.Mathlib.Omega.{arith}
use lib.ListN.{take, drop, length-set}
use Rattle.std.proofs.Common.{rules, Ok, Err}
use Rattle.card.specs.Inner.{step_in, left}
use Rattle.card.proofs.Laws.{left_over, none_left}
use Rattle.isa.specs.Vectors.{vector_count}
use Rattle.vectors_file.specs.File.{keys, address_lines, distinct, content}
use Rattle.vectors_file.proofs.Lines.{close, lines_next, lines_stop, lines_done, one_more, all_taken}
use Rattle.vectors_file.proofs.read_lines.Goals as goal

pub loop-i-init : goal.loop-i-init
unfolding content
loop-i-init c = record { same = refl; seven = refl }

pub returns-in_err-address : goal.returns-in_err-address
returns-in_err-address c =
    let l = c.loop-i in
    let file = c.args.file.now in
    let r = c.in_err-address.field-0.0 in
    let f : c.address_at.result ≡ Err r.cause = search rules in
    let n : r.line ≡ l.i + 1 = search rules in
    let z : c.from_residual.result ≡ Err r = search rules in
    let e = sym c.address_at.ensures.0 ∙ ap (step_in file) f in
    rw (z, n) (sym (l.invariant.same ∙ lines_stop keys l.i (left file l.at (l.i + 1)) (λ vs. close (take l.i l.list ++ vs)) (omega arith) e))

pub loop-i-preserved : goal.loop-i-preserved
loop-i-preserved c =
    let l = c.loop-i in
    let file = c.args.file.now in
    let v = c.in_ok-address.address in
    let at = c.in_ok-address.next in
    let f : c.address_at.result ≡ Ok (v, at) = search rules in
    let e = sym c.address_at.ensures.0 ∙ ap (step_in file) f in
    record {
      same = l.invariant.same
          ∙ lines_next keys l.i (left file l.at (l.i + 1)) (λ vs. close (take l.i l.list ++ vs)) (omega arith) e
          ∙ ap (address_lines (drop (l.i + 1) keys) (left file at (l.i + 1 + 1))) (one_more close l.list l.i v (omega arith));
      seven = simp length-set l.invariant.seven;
    }

pub returns-then-at-file : goal.returns-then-at-file
returns-then-at-file c =
    let l = c.loop-i in
    let file = c.args.file.now in
    let all : l.i ≡ vector_count = omega arith in
    let done = l.invariant.same ∙ lines_done keys l.i (left file l.at (l.i + 1)) (λ vs. close (take l.i l.list ++ vs)) (omega arith) in
    rw (c.at.ensures.0, c.at.ensures.1) (rw all at (sym (done ∙ left_over (l.i + 1) _ file l.at c.if-at-file.true)))

pub returns : goal.returns
returns c =
    let l = c.loop-i in
    let file = c.args.file.now in
    let done = l.invariant.same ∙ lines_done keys l.i (left file l.at (l.i + 1)) (λ vs. close (take l.i l.list ++ vs)) (omega arith) in
    c.distinct.ensures ∙ sym (done ∙ none_left (l.i + 1) _ file l.at c.if-at-file.false ∙ ap distinct (all_taken l.list l.i (omega arith)))
