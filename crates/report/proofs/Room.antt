-- The longest result and the longest refusal fit into the room that is asked for. Assumes nothing.
use mathlib.Core.Path.{◌≡◌, refl, ap, ◌∙◌}
use mathlib.Core.Bool.{Bool, true, false}
use mathlib.Core.List.{List, [], ◌∷◌, ◌++◌}
use Prim.Native.Nat.{ℕ, zero, suc, ◌+◌, ◌*◌, ◌^◌, ◌≤◌, ◌<◌}
use native.Mathlib.Omega.{arith}
use lib.Dec.{eqb}
use lib.ListN.{length, get_or, take, drop, length-append, length-take}
use lib.Seq.{get_or-drop, sets, sets-eq}
use borrow.Author.Tests.{lt-ltb, le-ltb, eqb-true, eqb-false}
use Rattle.effect.specs.State.{state_words}
use Rattle.steps.specs.declared.counts.Counts.{Counts}
use Rattle.print.specs.Digits.{decimal}
use Rattle.print.specs.Inner.{Puts}
use Rattle.print.specs.declared.Writer.{Writer}
use Rattle.print.proofs.Places.{decimal_le, length_hexadecimal}
use Rattle.report.specs.Answer.{counts_room, core_room, result_room, refusal_room, answer, written}
use Rattle.report.specs.Result.{registers, count_lines, core_line, register_line, register_lines, core_text, core_texts, cores, result_text, refusal_text}
use Rattle.std.specs.Prelude.{Ok, Err}
use Rattle.report.proofs.Lines.{register_zero, register_other}

word_le : (n : ℕ) → n < 2 ^ 32 → length (decimal n) ≤ 10
word_le n h = decimal_le n 10 (omega arith) (omega arith)

pub refusal_le : (number line : ℕ) → number < 2 ^ 32 → line < 2 ^ 32 → length (refusal_text number line) ≤ refusal_room
unfolding refusal_text
refusal_le number line h k =
    let a : length (decimal number) ≤ 10 = word_le number h in
    let b : length (decimal line) ≤ 10 = word_le line k in
    simp length-append (omega arith)

counts_le : (counts : Counts) → counts.executed < 2 ^ 32 → counts.raised < 2 ^ 32 → counts.reused < 2 ^ 32 →
    length (count_lines counts) ≤ counts_room
unfolding count_lines
counts_le counts h k l =
    let a : length (decimal counts.executed) ≤ 10 = word_le counts.executed h in
    let b : length (decimal counts.raised) ≤ 10 = word_le counts.raised k in
    let c : length (decimal counts.reused) ≤ 10 = word_le counts.reused l in
    simp length-append (omega arith)

-- every element is a word
abbrev pub AllWords : List ℕ → Type 0
AllWords l = (i : ℕ) → get_or l i 0 < 2 ^ 32

core_line_le : (core : ℕ) (state : List ℕ) → core < 10 ^ 20 → AllWords state → length (core_line core state) ≤ 83
unfolding core_line
core_line_le core state h w =
    let a : length (decimal core) ≤ 20 = decimal_le core 20 (omega arith) h in
    let b : length (decimal (get_or state 41 0)) ≤ 10 = word_le (get_or state 41 0) (w 41) in
    let c : length (decimal (get_or state 33 0)) ≤ 10 = word_le (get_or state 33 0) (w 33) in
    simp (length-append, length_hexadecimal) (omega arith)

register_line_le : (number value : ℕ) → number < 100 → length (register_line number value) ≤ 13
register_line_le number value h = go (eqb value 0) refl
  where
    go : (b : Bool) → eqb value 0 ≡ b → length (register_line number value) ≤ 13
    go true e = rw (register_zero number value (eqb-true value 0 e)) (omega arith)
    go false e =
        let a : length (decimal number) ≤ 2 = decimal_le number 2 (omega arith) h in
        rw (register_other number value (eqb-false value 0 e)) (simp (length-append, length_hexadecimal) (omega arith))

register_lines_le : (number : ℕ) (values : List ℕ) → number + length values ≤ 100 → length (register_lines number values) ≤ length values * 13
unfolding register_lines
register_lines_le number [] h = omega arith
register_lines_le number (v ∷ vs) h =
    let a : length (register_line number v) ≤ 13 = register_line_le number v (omega arith) in
    let b : length (register_lines (suc number) vs) ≤ length vs * 13 = register_lines_le (suc number) vs (omega arith) in
    simp length-append (omega arith)

core_le : (core : ℕ) (state : List ℕ) → core < 10 ^ 20 → AllWords state → length (core_text core state) ≤ core_room
unfolding core_text
core_le core state h w =
    let t : length (take registers state) ≤ registers = rw length-take (omega arith) in
    let a : length (core_line core state) ≤ 83 = core_line_le core state h w in
    let b : length (register_lines 0 (take registers state)) ≤ length (take registers state) * 13 =
    register_lines_le 0 (take registers state) (omega arith) in
    simp length-append (omega arith)

cores_le : (core n : ℕ) (states : List ℕ) → core + n < 10 ^ 20 → AllWords states → length (core_texts core n states) ≤ n * core_room
unfolding core_texts
cores_le core zero states h w = omega arith
cores_le core (suc n) states h w =
    let a : length (core_text core states) ≤ core_room = core_le core states (omega arith) w in
    let b : length (core_texts (suc core) n (drop state_words states)) ≤ n * core_room =
    cores_le (suc core) n (drop state_words states) (omega arith) (λ i. rw (get_or-drop state_words states i 0) (w (state_words + i))) in
    simp length-append (omega arith)

pub result_le : (counts : Counts) (states : List ℕ) → counts.executed < 2 ^ 32 → counts.raised < 2 ^ 32 → counts.reused < 2 ^ 32 →
    cores states < 10 ^ 20 → AllWords states → length (result_text counts states) ≤ result_room (cores states)
unfolding result_text
result_le counts states h k l n w =
    let a : length (count_lines counts) ≤ counts_room = counts_le counts h k l in
    let b : length (core_texts 0 (cores states) states) ≤ cores states * core_room = cores_le 0 (cores states) states (omega arith) w in
    simp length-append (omega arith)

-- the answer, and what is left, in each case
pub too_small : (room : ℕ) (text out : List ℕ) → length out < room → (Err (record {}) ≡ answer room text out) × (out ≡ written room text out)
unfolding answer written
too_small room text out h = (rw (lt-ltb (length out) room h), rw (lt-ltb (length out) room h))

module _ {before after : Writer} {out text : List ℕ} (room : ℕ) (b : before.out.now ≡ out) (z : before.at ≡ 0) (h : room ≤ length out) (l : length text ≤ room)
    (p : Puts before text after) where
  pub fits : (Ok after.at ≡ answer room text out) × (after.out.now ≡ written room text out)
  unfolding answer written
  fits =
      let n : 0 + length text ≡ length text = omega arith in
      let e : after.at ≡ length text = p.ends ∙ ap (λ k. k + length text) z ∙ n in (
        rw (le-ltb (length out) room h) (ap (λ (k : ℕ). Ok k) e),
        rw (le-ltb (length out) room h)
            (p.stored ∙ ap (λ m. sets m before.at text) b ∙ ap (λ k. sets out k text) z ∙ sets-eq text out 0 (omega arith) ∙ ap (λ k. text ++ drop k out) n),
      )
