use mathlib.Core.List.{List, ◌++◌}
use mathlib.Core.Path.{◌≡◌, sym, ap, subst, ◌∙◌}
use Prim.Native.Nat.{ℕ, ◌%◌}
use native.Mathlib.Omega.{arith}
use lib.ListN.{get_or}
use Rattle.std.proofs.Common.{rules}
use Rattle.isa.specs.declared.vectors.Cause.TheVariants.{Bus}
use Rattle.effect.specs.Board.{board_of_code}
use Rattle.effect.specs.State.{own_words, with_own_words, pc_at}
use Rattle.commit.proofs.Own.{own_word_at, own_same}
use Rattle.exec.specs.Inner.{Executes}
use Rattle.exec.proofs.Executes.{raised_here}
use Rattle.steps.specs.Inner.{taken, cache_taken}
use Rattle.steps.proofs.Cases.{enters_outside, enters_inside}
use Rattle.steps.proofs.instruction.Goals as goal

pub next-requires : goal.next-requires
next-requires c =
    let a = c.args in
    let h = c.requires.state_words_in_bounds in
    let o : c.unwrap-own.result.now ≡ own_words a.states.now a.core = search rules in
    let pc = ap (λ (own : List ℕ). get_or own pc_at 0) o ∙ own_word_at a.states.now a.core h pc_at (omega arith) in
    record { backed = c.requires.backed; word_address = (ap (λ (p : ℕ). p % 4) pc ∙ c.requires.pc_aligned, omega arith) }

pub returns-in_default : goal.returns-in_default
returns-in_default c =
    let a = c.args in
    let b = board_of_code a.board in
    let s = a.states.now in
    let h = c.requires.state_words_in_bounds in
    let o : c.unwrap-own.result.now ≡ own_words s a.core = search rules in
    let split = c.split_at_mut-rest.result in
    let t = split.0.now ++ (c.fetch_fault.new.own ++ c.split_at_mut-part.result.1.now) in
    let w : t ≡ with_own_words s a.core c.fetch_fault.new.own = search rules in
    let pc = ap (λ (own : List ℕ). get_or own pc_at 0) o ∙ own_word_at s a.core h pc_at (omega arith) in
    let next = c.next.ensures b in
    let found = sym c.in_default.is ∙ next.0 ∙ ap (λ (p : ℕ). taken b a.memory.now a.cache.now p a.given) pc in
    let left = next.1 ∙ ap (λ (p : ℕ). cache_taken b a.memory.now a.cache.now p a.given) pc in
    enters_outside b a.memory.now s a.cache.now a.core a.given c.requires.not_interrupted (found, left)
    (raised_here s a.core h o w Bus pc_at (omega arith) c.fetch_fault.ensures a.memory.now)

pub returns : goal.returns
returns c =
    let a = c.args in
    let b = board_of_code a.board in
    let s = a.states.now in
    let h = c.requires.state_words_in_bounds in
    let o : c.unwrap-own.result.now ≡ own_words s a.core = search rules in
    let pc = ap (λ (own : List ℕ). get_or own pc_at 0) o ∙ own_word_at s a.core h pc_at (omega arith) in
    let next = c.next.ensures b in
    let done = c.execute-done in
    let split = c.split_at_mut-rest.result in
    let t = split.0.now ++ (c.unwrap-own.result.now ++ c.split_at_mut-part.result.1.now) in
    let w : t ≡ with_own_words s a.core c.unwrap-own.result.now = search rules in
    let same = w ∙ ap (with_own_words s a.core) o ∙ own_same s a.core h in
    let found = sym c.in-Some.is ∙ next.0 ∙ ap (λ (p : ℕ). taken b a.memory.now a.cache.now p a.given) pc in
    let left = next.1 ∙ ap (λ (p : ℕ). cache_taken b a.memory.now a.cache.now p a.given) pc in
    enters_inside b a.memory.now s a.cache.now a.core a.given c.requires.not_interrupted (found, left)
    (subst (λ (s : List ℕ). Executes b a.memory.now s a.core c.in-Some.f.entry done.new.memory done.new.states done.result) same done.ensures) c.empty_touched.ensures
