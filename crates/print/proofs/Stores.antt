-- What a writer puts: texts one after another, or in a loop; and digits from the last. Assumes nothing.
use mathlib.Core.Path.{◌≡◌, refl, ap, sym, ◌∙◌}
use mathlib.Core.List.{List, [], ◌∷◌, ◌++◌, append_assoc}
use Prim.Native.Nat.{ℕ, zero, suc, ◌+◌, ◌-◌, ◌/◌, ◌%◌, ◌≤◌, ◌<◌}
use native.Mathlib.Nat.{not-suc-le-zero}
use native.Mathlib.Omega.{arith}
use lib.ListN.{length, set, length-append}
use lib.Seq.{sets, length-sets, sets-eq, drop-drop}
use borrow.Rule.Slice.PartMut.{put_mid}
use Rattle.text.specs.Digits.{glyph}
use Rattle.text.proofs.Stores.{sets_append, sets_set}
use Rattle.print.specs.Digits.{digits}
use Rattle.print.specs.Inner.{Puts, Fits}
use Rattle.print.specs.declared.Writer.{Writer}
use Rattle.print.proofs.Places.{length_digits}

-- what a writer puts: its length stays, since the text is stored into what was there
pub puts_of : {before after : Writer} (text : List ℕ) → after.out.ghost_name ≡ before.out.ghost_name → after.out.now ≡ sets before.out.now before.at text →
    after.at ≡ before.at + length text → Puts before text after
puts_of {before} text r e n =
    record { same_reference = r; stored = e; ends = n; kept = ap length e ∙ length-sets before.out.now before.at text }

pub puts_nothing : {w : Writer} → Puts w [] w
puts_nothing = puts_of [] refl refl (omega arith)

-- a text after another
pub puts_then : {before middle after : Writer} {s t : List ℕ} → Puts before s middle → Puts middle t after → Puts before (s ++ t) after
puts_then {before} {middle} {after} {s} {t} p q =
    puts_of (s ++ t) (q.same_reference ∙ p.same_reference)
    (q.stored ∙ ap (λ m. sets m middle.at t) p.stored ∙ ap (λ k. sets (sets before.out.now before.at s) k t) p.ends ∙ sym (sets_append before.out.now before.at s t))
    (q.ends ∙ ap (λ k. k + length t) p.ends ∙ rw length-append (omega arith))

-- of a text that is being put by the writer `before`, `rest` is still to come
pub record Rest (before : Writer) (text : List ℕ) (now : Writer) (rest : List ℕ) : Type 0 where
  pub same_reference : now.out.ghost_name ≡ before.out.ghost_name
  pub stored : sets now.out.now now.at rest ≡ sets before.out.now before.at text
  pub ends : now.at + length rest ≡ before.at + length text
  pub kept : length now.out.now ≡ length before.out.now

pub rest_all : (w : Writer) (text : List ℕ) → Rest w text w text
rest_all w text = record { same_reference = refl; stored = refl; ends = refl; kept = refl }

pub rest_put : {before now after : Writer} {text rest s : List ℕ} → (t : List ℕ) → Rest before text now rest → rest ≡ s ++ t → Puts now s after →
    Rest before text after t
rest_put {before} {now} {after} {text} {rest} {s} t r e p =
    record {
      same_reference = p.same_reference ∙ r.same_reference;
      stored =
          ap (λ m. sets m after.at t) p.stored ∙ ap (λ k. sets (sets now.out.now now.at s) k t) p.ends ∙ sym (sets_append now.out.now now.at s t)
          ∙ ap (sets now.out.now now.at) (sym e) ∙ r.stored;
      ends = let l : length rest ≡ length s + length t = ap length e ∙ length-append s t in let k = p.ends in let m = r.ends in omega arith;
      kept = p.kept ∙ r.kept;
    }

pub rest_none : {before now : Writer} {text rest : List ℕ} → Rest before text now rest → rest ≡ [] → Puts before text now
rest_none {before} {now} {text} {rest} r e =
    puts_of text r.same_reference (ap (sets now.out.now now.at) (sym e) ∙ r.stored) (let l : length rest ≡ 0 = ap length e in let m = r.ends in omega arith)

-- there is room for a part of what is still to come
pub rest_room : {before now : Writer} {text rest : List ℕ} → (s t : List ℕ) → Rest before text now rest → rest ≡ s ++ t → Fits before text → Fits now s
rest_room {before} {now} {text} {rest} s t r e h =
    let l : length rest ≡ length s + length t = ap length e ∙ length-append s t in let m = r.ends in let k = r.kept in
    omega arith

-- digits are put from the last to the first
pub digits_put : (out : List ℕ) (at base i n : ℕ) → 0 < i →
    sets (set out (at + (i - 1)) (glyph (n % base))) at (digits base (i - 1) (n / base)) ≡ sets out at (digits base i n)
unfolding digits
digits_put out at base zero n h = absurd (not-suc-le-zero h)
digits_put out at base (suc i) n h =
    let z : suc i - 1 ≡ i = omega arith in
    let l : length (digits base i (n / base)) ≡ i = length_digits base i (n / base) in
    rw z
    (sets_set out at (digits base i (n / base)) (at + i) (glyph (n % base)) (omega arith)
    ∙ ap (λ k. set (sets out at (digits base i (n / base))) (at + k) (glyph (n % base))) (sym l)
    ∙ sym (sets_append out at (digits base i (n / base)) (glyph (n % base) ∷ [])))

pub no_digits : (out : List ℕ) (at base i n : ℕ) → i ≡ 0 → out ≡ sets out at (digits base i n)
unfolding digits
no_digits out at base i n z = rw z

-- a text that is copied into a part of the bytes
pub copied : (out text new : List ℕ) (at k : ℕ) → k ≡ length text → new ≡ text → at + length text ≤ length out → put_mid at k out new ≡ sets out at text
copied out text new at k e n h = rw (n, e, drop-drop, sets-eq text out at h, append_assoc)
