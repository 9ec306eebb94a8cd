-- A register's line, and the turns of the loops over registers and cores. Assumes nothing.
use mathlib.Core.Path.{◌≡◌, refl, ap₂}
use mathlib.Core.List.{List, [], ◌∷◌, ◌++◌}
use Prim.Native.Nat.{ℕ, zero, suc, ◌+◌, ◌≤◌, ◌<◌}
use native.Mathlib.Numerals.{add-one}
use native.Mathlib.Omega.{arith}
use lib.ListN.{length, take, drop, get_or, length-append}
use Rattle.print.specs.Inner.{Fits}
use Rattle.print.specs.declared.Writer.{Writer}
use Rattle.print.proofs.Places.{length_hexadecimal}
use lib.Dec.{lit<, lit≤}
use lib.Seq.{drop-cons, get_or-take, take-take}
use Rattle.std.specs.Simd.{first_chunks}
use borrow.Author.Tests.{eq-eqb, ne_eqb}
use Rattle.effect.specs.State.{state_words, pc_at, delay_at, sr_at, mode_at}
use Rattle.report.specs.Result.{registers, keyed_decimal, keyed_word, line_feed, register_line, register_lines, core_line, core_text, core_texts}

-- how long a text of parts is
pub ruleset lengths = (length-append, length_hexadecimal)

pub register_zero : (number value : ℕ) → value ≡ 0 → register_line number value ≡ []
unfolding register_line
register_zero number value e = rw (eq-eqb value 0 e)

pub register_other : (number value : ℕ) → (value ≡ 0 → ⊥) → register_line number value ≡ keyed_decimal "r" number ++ keyed_word "=" value ++ line_feed
unfolding register_line
register_other number value n = rw (ne_eqb value 0 n)

-- a smaller value's line is no longer
line_below : (number : ℕ) {v' v : ℕ} → v' ≤ v → length (register_line number v') ≤ length (register_line number v)
line_below number {v' = zero} {v = v} h = rw (register_zero number 0 refl) (omega arith)
line_below number {v' = suc n} {v = v} h =
    simp (register_other number (suc n) (λ e. absurd (omega (arith, e))), register_other number v (λ e. absurd (omega (arith, h, e))), length-append, length_hexadecimal) (omega arith)

-- so it has room where the other has
pub fits_below : (w : Writer) (number : ℕ) {v' v : ℕ} → v' ≤ v → Fits w (register_line number v) → Fits w (register_line number v')
fits_below w number h f = let l = line_below number h in omega arith

pub ruleset register_lengths = (length-append, length_hexadecimal, register_other)

pub next_register : (values : List ℕ) (i : ℕ) → i < length values →
    register_lines i (drop i values) ≡ register_line i (get_or values i 0) ++ register_lines (i + 1) (drop (i + 1) values)
unfolding register_lines
next_register values i h = rw (add-one, drop-cons values i 0)

pub no_register : (i : ℕ) (values : List ℕ) → values ≡ [] → register_lines i values ≡ []
unfolding register_lines
no_register i values e = rw e

-- a core's text reads its own words alone
own_text : (core : ℕ) (states : List ℕ) → core_text core (take state_words states) ≡ core_text core states
unfolding core_text core_line
own_text core states =
    let r : take registers (take state_words states) ≡ take registers states = take-take registers state_words states (lit≤ tt) in
    let w = λ (i : ℕ) (h : i < state_words). get_or-take state_words states i 0 h in
    rw (w mode_at (lit< tt), w pc_at (lit< tt), w delay_at (lit< tt), w sr_at (lit< tt), r)

-- the text of cores from a number on, each by its own words
unfoldable pub whole_texts : ℕ → List (List ℕ) → List ℕ
whole_texts core [] = []
whole_texts core (state ∷ states) = core_text core state ++ whole_texts (suc core) states

pub whole_cores : (core n : ℕ) (states : List ℕ) → whole_texts core (first_chunks state_words n states) ≡ core_texts core n states
unfolding whole_texts core_texts
whole_cores core zero states = refl
whole_cores core (suc n) states = ap₂ (λ s t. s ++ t) (own_text core states) (whole_cores (suc core) n (drop state_words states))

pub next_core : (states : List (List ℕ)) (i : ℕ) → i < length states →
    whole_texts i (drop i states) ≡ core_text i (get_or states i []) ++ whole_texts (i + 1) (drop (i + 1) states)
unfolding whole_texts
next_core states i h = rw (add-one, drop-cons states i [])

pub no_core : (i : ℕ) (states : List (List ℕ)) → states ≡ [] → whole_texts i states ≡ []
unfolding whole_texts
no_core i states e = rw e
