use mathlib.Core.Path.{◌≡◌, refl, sym, ap, ◌∙◌}
use mathlib.Core.List.{◌++◌}
use Prim.Native.Nat.{ℕ, ◌%◌}
use native.Mathlib.Omega.{arith}
use Rattle.std.proofs.Common.{rules}
use Rattle.isa.specs.declared.vectors.Cause.TheVariants.{Interrupt}
use Rattle.effect.specs.Board.{board_of_code}
use Rattle.effect.specs.State.{own_words, with_own_words, pc_at, eear_at}
use Rattle.exec.proofs.Executes.{raised_here}
use Rattle.steps.specs.Inner.{begun}
use Rattle.steps.proofs.Begins.{undisturbed_here, start_here, begun_here, begun_words, begun_again}
use Rattle.steps.proofs.Cases.{fetch_undisturbed, begun_word, begun_length, step_idle, step_interrupted, step_executed}
use Rattle.steps.proofs.step.Goals as goal

pub begin-requires : goal.begin-requires
begin-requires c =
    let a = c.args in
    let s = a.states.now in
    let o : c.unwrap-own.result.now ≡ own_words s a.entry.core = search rules in
    undisturbed_here s a.entry c.requires.state_words_in_bounds o c.requires.undisturbed

pub instruction-requires : goal.instruction-requires
instruction-requires c =
    let a = c.args in
    let s = a.states.now in
    let begin = c.begin in
    let h = c.requires.state_words_in_bounds in
    let o : c.unwrap-own.result.now ≡ own_words s a.entry.core = search rules in
    let split = c.split_at_mut-rest.result in
    let t = split.0.now ++ (begin.new.own ++ c.split_at_mut-part.result.1.now) in
    let w : t ≡ with_own_words s a.entry.core begin.new.own = search rules in
    let q = begun_here s a.entry h o begin.ensures.0 w in
    let n = begun_length s a.entry a.given q in
    record {
      state_words_in_bounds = omega (arith, n, h);
      not_interrupted = fetch_undisturbed s a.entry a.given q (start_here s a.entry h o a.given (sym c.in-Execute.is ∙ begin.ensures.1));
      backed = c.requires.backed;
      pc_aligned = ap (λ (p : ℕ). p % 4) (begun_word s a.entry a.given q pc_at (omega arith) (λ z. omega arith)) ∙ c.requires.pc_aligned;
    }

pub returns-in-Idle : goal.returns-in-Idle
returns-in-Idle c =
    let a = c.args in
    let s = a.states.now in
    let begin = c.begin in
    let h = c.requires.state_words_in_bounds in
    let o : c.unwrap-own.result.now ≡ own_words s a.entry.core = search rules in
    let w : _ ≡ with_own_words s a.entry.core begin.new.own = search rules in
    step_idle (board_of_code a.board) a.memory.now s a.cache.now a.entry a.given (begun_here s a.entry h o begin.ensures.0 w) (start_here s a.entry h o a.given (sym c.in-Idle.is ∙ begin.ensures.1))

pub returns-in-Interrupt : goal.returns-in-Interrupt
returns-in-Interrupt c =
    let a = c.args in
    let s = a.states.now in
    let begin = c.begin in
    let h = c.requires.state_words_in_bounds in
    let o : c.unwrap-own.result.now ≡ own_words s a.entry.core = search rules in
    let split = c.split_at_mut-rest.result in
    let t = split.0.now ++ (c.take.new.own ++ c.split_at_mut-part.result.1.now) in
    let w : t ≡ with_own_words s a.entry.core c.take.new.own = search rules in
    let n = begun_length s a.entry a.given {t = begun s a.entry} refl in
    let x = raised_here (begun s a.entry) a.entry.core (omega (arith, n, h)) (begun_words s a.entry h o begin.ensures.0) (begun_again s a.entry h o begin.ensures.0 c.take.new.own w) Interrupt eear_at (omega arith) c.take.ensures a.memory.now in
    step_interrupted (board_of_code a.board) a.memory.now s a.cache.now a.entry a.given refl (start_here s a.entry h o a.given (sym c.in-Interrupt.is ∙ begin.ensures.1)) x

pub returns-in-Execute : goal.returns-in-Execute
returns-in-Execute c =
    let a = c.args in
    let s = a.states.now in
    let begin = c.begin in
    let h = c.requires.state_words_in_bounds in
    let o : c.unwrap-own.result.now ≡ own_words s a.entry.core = search rules in
    let w : _ ≡ with_own_words s a.entry.core begin.new.own = search rules in
    step_executed (board_of_code a.board) a.memory.now s a.cache.now a.entry a.given (begun_here s a.entry h o begin.ensures.0 w) (start_here s a.entry h o a.given (sym c.in-Execute.is ∙ begin.ensures.1)) c.instruction.ensures
