use Prim.Native.Nat.{◌+◌, ◌-◌}
use mathlib.Core.Path.{◌≡◌, ap, sym, ◌∙◌}
use native.Mathlib.Omega.{arith}
use Rattle.std.proofs.Common.{rules, Ok, Err}
use Rattle.card.specs.Answer.{header_lines}
use Rattle.card.specs.Inner.{step_in, left, close, word_lines_of}
use Rattle.card.proofs.Laws.{words_next, words_stop, words_over, words_whole}
use Rattle.card.proofs.word_lines.Goals as goal

pub returns-in_err-at : goal.returns-in_err-at
unfolding word_lines_of
returns-in_err-at c =
    let l = c.loop-i in
    let a = c.args in
    let r = c.in_err-at.field-0.0 in
    let f : c.word_at.result ≡ Err r.cause = search rules in
    let n : r.line ≡ header_lines + 1 + l.i = search rules in
    let z : c.from_residual.result ≡ Err r = search rules in
    let e = sym c.word_at.ensures.0 ∙ ap (step_in a.card.now) f in
    rw (z, n) (sym (words_stop (close a.job) (a.job.words - l.i) (left a.card.now l.at (header_lines + 1 + l.i)) (omega arith) e) ∙ l.invariant.same)

pub loop-i-preserved : goal.loop-i-preserved
loop-i-preserved c =
    let l = c.loop-i in
    let a = c.args in
    let at = c.in_ok-at.field-0-1 in
    let f : c.word_at.result ≡ Ok (c.in_ok-at.field-0-0, at) = search rules in
    let e = sym c.word_at.ensures.0 ∙ ap (step_in a.card.now) f in
    let h = rw f at c.word_at.ensures.1 in
    let m : a.job.words - (l.i + 1) ≡ a.job.words - l.i - 1 = omega arith in
    let n : header_lines + 1 + (l.i + 1) ≡ header_lines + 1 + l.i + 1 = omega arith in
    record {
      same = rw (m, n) (sym (words_next (close a.job) (a.job.words - l.i) (left a.card.now l.at (header_lines + 1 + l.i)) (omega arith) e) ∙ l.invariant.same);
      counted = omega arith;
      few = omega arith;
    }

pub returns-then-at-card : goal.returns-then-at-card
unfolding word_lines_of
returns-then-at-card c =
    let a = c.args in
    let l = c.loop-i in
    let all : l.i ≡ a.job.words = omega arith in
    rw (c.at.ensures.0, c.at.ensures.1) (rw all at (sym (words_over a.job (a.job.words - l.i) (header_lines + 1 + l.i) a.card.now l.at (omega arith) c.if-at-card.true) ∙ l.invariant.same))

pub returns : goal.returns
unfolding word_lines_of
returns c =
    let a = c.args in
    let l = c.loop-i in
    sym (words_whole a.job (a.job.words - l.i) (header_lines + 1 + l.i) a.card.now l.at (omega arith) c.if-at-card.false) ∙ l.invariant.same
