use Prim.Native.Nat.{◌+◌, ◌<◌}
use mathlib.Core.Path.{◌≡◌, refl, sym, ◌∙◌}
use native.Mathlib.Omega.{arith}
use lib.ListN.{length, take, drop, length-drop}
use Rattle.std.proofs.lemmas.Slice.{between_to_end}
use Rattle.text.proofs.Laws.{fed, unfed, starts_is, no_line, other_line, line_entry, key_fits}
use borrow.Author.Rules.{rules}
use Rattle.text.proofs.find_entry.Goals as goal

pub returns-in_err-rest : goal.returns-in_err-rest
returns-in_err-rest c =
    let a = c.args in
    let past : length a.text.now < a.at = search rules in
    rw c.from_residual.ensures (sym (no_line a.key.now a.text.now a.at _ refl (omega arith)), tt)

pub returns-in_err-length : goal.returns-in_err-length
returns-in_err-length c =
    let a = c.args in
    let rest : c.in_ok-rest.rest.now ≡ drop a.at a.text.now = search (rules, between_to_end) in
    let none = unfed (drop a.at a.text.now) (rw rest at (sym c.in_err-length.ensures)) in
    rw c.from_residual-in_err-length.ensures (sym (no_line a.key.now a.text.now a.at _ refl (omega (arith, length-drop a.at a.text.now))), tt)

pub returns-then-not-starts_with : goal.returns-then-not-starts_with
returns-then-not-starts_with c =
    let a = c.args in
    let n = c.in_ok-length.length in
    let rest : c.in_ok-rest.rest.now ≡ drop a.at a.text.now = search (rules, between_to_end) in
    let here = fed (drop a.at a.text.now) (rw rest at (sym c.in_ok-length.ensures)) in
    let b = sym (starts_is a.key.now (take n c.in_ok-rest.rest.now)) ∙ sym c.starts_with.ensures.value ∙ c.if-not-starts_with.true in
    (sym (other_line a.key.now a.text.now a.at n (sym here.0) (omega (arith, length-drop a.at a.text.now)) (rw rest at b)), tt)

pub returns : goal.returns
returns c =
    let a = c.args in
    let n = c.in_ok-length.length in
    let rest : c.in_ok-rest.rest.now ≡ drop a.at a.text.now = search (rules, between_to_end) in
    let here = fed (drop a.at a.text.now) (rw rest at (sym c.in_ok-length.ensures)) in
    let h : a.at + n < length a.text.now = omega (arith, length-drop a.at a.text.now) in
    let b = sym (starts_is a.key.now (take n c.in_ok-rest.rest.now)) ∙ sym c.starts_with.ensures.value ∙ c.if-not-starts_with.false in
    let f = key_fits a.key.now a.text.now a.at n (sym here.0) h (rw rest at b) in
    (sym (line_entry a.key.now a.text.now a.at n (sym here.0) h (rw rest at b)), (refl, omega arith, omega arith, omega arith))
