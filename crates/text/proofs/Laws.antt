-- Laws of digits, numbers and lines, as the loops use them. Assumes nothing.
use Prim.Native.Nat.{ℕ, suc, ◌+◌, ◌-◌, ◌*◌, ◌^◌, ◌≤◌, ◌<◌}
use mathlib.Core.Path.{◌≡◌, refl, ap, sym, ◌∙◌}
use mathlib.Core.Bool.{Bool, true, false, ◌&&◌}
use mathlib.Core.List.{List, [], ◌∷◌}
use native.Mathlib.Numerals.{add-one, one-add}
use native.Mathlib.Omega.{arith}
use native.Mathlib.Nat.{mul-le-mul_left, not-suc-le-zero, pow-suc, pow-le-pow_right}
use borrow.Author.Tests.{lt-ltb, le-ltb, ltb-true, ltb-false}
use lib.Dec.{T, eqb, ltb, eqb→eq, lit<}
use lib.ListN.{length, take, drop, get_or, drop_of_length-le, length-drop}
use lib.Seq.{drop-cons, drop-drop, take-add, drop_at, length-take-le}
use lib.Arith.{digits_lt}
use Rattle.bits.proofs.Tests.{everywhere, within as at_each}
use Rattle.text.specs.Digits.{digit}
use Rattle.text.specs.Numbers.{number}
use Rattle.text.specs.Lines.{Line, ended, cut, onto, lines, begins, Entry, entry, missing, entry_of}
use Rattle.text.specs.Inner.{line_length, line_end}
use Rattle.std.specs.Prelude.{Some, None, cond, position, if◌then◌else◌, not}
use Rattle.std.specs.List.{starts_with, position_or_len}
use Rattle.std.proofs.lemmas.Option.{none-some}

-- the digits by a range of bytes: at each of n bytes from low on, f is the digit
pub digits_are : (f : ℕ → ℕ) (low n : ℕ) → T (everywhere (λ b. eqb (f b) (digit b)) low n) → (b : ℕ) → low ≤ b → b < low + n → f b ≡ digit b
digits_are f low n t b h k = eqb→eq (f b) (digit b) (at_each (λ b. eqb (f b) (digit b)) low n t b h k)

module _ (base v i : ℕ) (t : List ℕ) where
  pub number_step : (d : ℕ) → i < length t → d ≡ digit (get_or t i 0) → d < base → number base v (drop i t) ≡ number base (v * base + d) (drop (i + 1) t)
  number_step d h e l = rw (add-one, drop-cons t i 0) (simp (sym e, lt-ltb _ _ l))

  pub number_stop : (d : ℕ) → i < length t → d ≡ digit (get_or t i 0) → base ≤ d → number base v (drop i t) ≡ None
  number_stop d h e l = rw (drop-cons t i 0) (simp (sym e, le-ltb _ _ l))

  pub number_end : length t ≤ i → number base v (drop i t) ≡ Some v
  number_end h = rw (drop_of_length-le t)

-- i digits in a base up to 16, and one more
pub one_more : (i : ℕ) {v d base : ℕ} → base ≤ 16 → d < base → v < 16 ^ i → v * base + d < 16 ^ (i + 1)
one_more i {v} {d} {base} h g k =
    let m : v * base ≤ v * 16 = mul-le-mul_left v h in
    let l : v * 16 + d < 16 ^ i * 16 = digits_lt k (omega arith) in
    rw (add-one, pow-suc) (omega arith)

-- up to eight digits are a word
pub eight : (i : ℕ) {v : ℕ} → i ≤ 8 → v < 16 ^ i → v < 16 ^ 8
eight i h k = let m : 16 ^ i ≤ 16 ^ 8 = pow-le-pow_right (lit< tt) h in omega arith

-- the line begins with the key where the key's first bytes are the line's
pub starts_is : (k l : List ℕ) → starts_with eqb l k ≡ begins k l
starts_is [] l = refl
starts_is (x ∷ k) [] = refl
starts_is (x ∷ k) (b ∷ l) = ap (λ t. eqb x b && t) (starts_is k l)

-- a line is no shorter than what it begins with
and_right_true : (a : Bool) {b : Bool} → (a && b) ≡ true → b ≡ true
and_right_true true e = e
and_right_true false e = absurd (let z : ◌≡◌ {A = ℕ} 0 1 = cc in omega arith)

pub begins_length : (k l : List ℕ) → begins k l ≡ true → length k ≤ length l
begins_length [] l e = omega arith
begins_length (x ∷ k) [] e = absurd (let z : ◌≡◌ {A = ℕ} 0 1 = cc in omega arith)
begins_length (x ∷ k) (b ∷ l) e = let h = begins_length k l (and_right_true (eqb x b) e) in omega arith

-- the first line's length is the place of the first line feed, or the text's
length_is : (s : List ℕ) → position_or_len (λ b. eqb b 10) s ≡ line_length s
unfolding line_length
length_is [] = refl
length_is (b ∷ s) = length_cons (eqb b 10) (length_is s)
  where
    length_cons : (t : Bool) → position_or_len (λ b. eqb b 10) s ≡ line_length s → cond (not t) (1 + position_or_len (λ b. eqb b 10) s) 0 ≡ if t then 0 else suc (line_length s)
    length_cons true e = refl
    length_cons false e = rw one-add (ap suc e)

module _ (s : List ℕ) where
  position_is : position (λ b. eqb b 10) s ≡ cond (ltb (line_length s) (length s)) (Some (line_length s)) None
  position_is = ap (λ n. cond (ltb n (length s)) (Some n) None) (length_is s)

  pub fed : {n : ℕ} → position (λ b. eqb b 10) s ≡ Some n → (line_length s ≡ n) × (n < length s)
  fed {n} e = at_test (ltb (line_length s) (length s)) refl (sym position_is ∙ e)
    where
      at_test : (t : Bool) → ltb (line_length s) (length s) ≡ t → cond t (Some (line_length s)) None ≡ Some n → (line_length s ≡ n) × (n < length s)
      at_test true h e = let m : line_length s ≡ n = cc in let l : line_length s < length s = ltb-true _ _ h in (m, omega arith)
      at_test false h e = absurd (none-some n e)

  pub unfed : position (λ b. eqb b 10) s ≡ None → length s ≤ line_length s
  unfed e = at_test (ltb (line_length s) (length s)) refl (sym position_is ∙ e)
    where
      at_test : (t : Bool) → ltb (line_length s) (length s) ≡ t → cond t (Some (line_length s)) None ≡ None → length s ≤ line_length s
      at_test true h e = absurd (none-some (line_length s) (sym e))
      at_test false h e = ltb-false _ _ h

-- where a line feed stands, the first line ends there
ended_cons : (b : ℕ) (s : List ℕ) (t : Bool) → eqb b 10 ≡ t → (line_length s < length s → lines s ≡ ended (take (line_length s) s) ∷ lines (drop (suc (line_length s)) s))
    → line_length (b ∷ s) < length (b ∷ s) → lines (b ∷ s) ≡ ended (take (line_length (b ∷ s)) (b ∷ s)) ∷ lines (drop (suc (line_length (b ∷ s))) (b ∷ s))
unfolding line_length lines
ended_cons b s true e ih h = simp e
ended_cons b s false e ih h = let g : suc (line_length s) < suc (length s) = simp e at h in simp (e, ih (omega arith))

lines_ended : (s : List ℕ) → line_length s < length s → lines s ≡ ended (take (line_length s) s) ∷ lines (drop (suc (line_length s)) s)
unfolding line_length
lines_ended [] h = absurd (not-suc-le-zero h)
lines_ended (b ∷ s) h = ended_cons b s (eqb b 10) refl (lines_ended s) h

-- where none stands, no line is ended
pub data NoneEnded : List Line → Type 0 where
  none : NoneEnded []
  only : (l : List ℕ) → NoneEnded (cut l ∷ [])

cut_onto : (b : ℕ) {ls : List Line} → NoneEnded ls → NoneEnded (onto b ls)
cut_onto b none = only (b ∷ [])
cut_onto b (only l) = only (b ∷ l)

cut_cons : (b : ℕ) (s : List ℕ) (t : Bool) → eqb b 10 ≡ t → (length s ≤ line_length s → NoneEnded (lines s)) → length (b ∷ s) ≤ line_length (b ∷ s) → NoneEnded (lines (b ∷ s))
unfolding line_length lines
cut_cons b s true e ih h = let g : suc (length s) ≤ 0 = simp e at h in absurd (not-suc-le-zero g)
cut_cons b s false e ih h = let g : suc (length s) ≤ suc (line_length s) = simp e at h in rw e (cut_onto b (ih (omega arith)))

lines_cut : (s : List ℕ) → length s ≤ line_length s → NoneEnded (lines s)
unfolding lines
lines_cut [] h = none
lines_cut (b ∷ s) h = cut_cons b s (eqb b 10) refl (lines_cut s) h

none_missing : (key : List ℕ) {ls : List Line} → NoneEnded ls → entry_of key ls ≡ missing
unfolding entry_of
none_missing key none = refl
none_missing key (only l) = refl

-- the first line of what stands at a place has n bytes
module _ (key s : List ℕ) (at n : ℕ) (h : n ≡ line_length (drop at s)) where
  pub no_line : length s ≤ at + n → entry_of key (lines (drop at s)) ≡ missing
  no_line k = none_missing key (lines_cut (drop at s) (simp length-drop (omega arith)))

  module _ (k : at + n < length s) where
    abbrev pub line : List ℕ
    line = take n (drop at s)

    at_line : lines (drop at s) ≡ ended line ∷ lines (drop (at + n + 1) s)
    at_line =
        let l : line_length (drop at s) < length (drop at s) = simp length-drop (omega arith) in
        let m : at + suc n ≡ at + n + 1 = omega arith in
        rw (lines_ended (drop at s) l) (simp (sym h, drop-drop, m))

    pub other_line : begins key line ≡ false → entry_of key (lines (drop at s)) ≡ missing
    unfolding entry_of
    other_line b = rw at_line (simp b)

    pub key_fits : begins key line ≡ true → length key ≤ n
    key_fits b = omega (arith, begins_length key line b, length-take-le n (drop at s) (simp length-drop (omega arith)))

    pub line_entry : begins key line ≡ true → entry_of key (lines (drop at s)) ≡ entry (take (at + n - (at + length key)) (drop (at + length key) s)) (lines (drop (at + n + 1) s))
    unfolding entry_of
    line_entry b =
        let f : length key ≤ n = key_fits b in
        let m : n ≡ length key + (at + n - (at + length key)) = omega arith in
        let l : length key ≤ length (drop at s) = simp length-drop (omega arith) in
        let d : drop (length key) (take (length key + (at + n - (at + length key))) (drop at s)) ≡ take (at + n - (at + length key)) (drop (at + length key) s) =
        rw (take-add (length key) (at + n - (at + length key)) (drop at s))
        (drop_at (take (length key) (drop at s)) _ (length key) (length-take-le (length key) (drop at s) l)
        ∙ ap (take (at + n - (at + length key))) (drop-drop (length key) at s)) in
        rw at_line (simp b (ap (λ t. entry t (lines (drop (at + n + 1) s))) (ap (λ i. drop (length key) (take i (drop at s))) m ∙ d)))

-- the text after a key on the line at a place
abbrev pub text_at : List ℕ → List ℕ → ℕ → List ℕ
text_at key s at = take (line_end s at - (at + length key)) (drop (at + length key) s)

-- no entry, or the one whose text stands there
pub data Stands (key s : List ℕ) (at : ℕ) : Entry → Type 0 where
  nowhere : Stands key s at missing
  there : at + length key ≤ line_end s at → line_end s at < length s → Stands key s at (entry (text_at key s at) (lines (drop (line_end s at + 1) s)))

module _ (key s : List ℕ) (at : ℕ) where
  begun : (h : line_end s at < length s) (b : Bool) → begins key (line key s at (line_length (drop at s)) refl h) ≡ b → Stands key s at (entry_of key (lines (drop at s)))
  begun h true e = rw (line_entry key s at _ refl h e) (let f = key_fits key s at _ refl h e in there (omega arith) h)
  begun h false e = rw (other_line key s at _ refl h e) nowhere

  feed : (b : Bool) → ltb (line_end s at) (length s) ≡ b → Stands key s at (entry_of key (lines (drop at s)))
  feed true e = begun (ltb-true _ _ e) _ refl
  feed false e = rw (no_line key s at _ refl (ltb-false _ _ e)) nowhere

  pub entry_stands : Stands key s at (entry_of key (lines (drop at s)))
  entry_stands = feed _ refl
