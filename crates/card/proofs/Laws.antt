-- Laws of a card's lines, as the functions that read them use them. Assumes nothing.
use Prim.Native.Nat.{ℕ, zero, suc, ◌+◌, ◌-◌, ◌≤◌, ◌<◌}
use mathlib.Core.Path.{◌≡◌, refl, ap, sym, ◌∙◌}
use mathlib.Core.Bool.{Bool, true, false}
use mathlib.Core.List.{List, [], ◌∷◌}
use native.Mathlib.Numerals.{add-one}
use native.Mathlib.Omega.{arith}
use native.Mathlib.Nat.{not-suc-le-zero}
use borrow.Author.Tests.{ltb-true}
use lib.Dec.{T, eqb, ltb, lit<}
use lib.ListN.{length, drop, get_or, set, drop_of_length-le, length-drop}
use lib.Seq.{drop-cons}
use Rattle.bits.proofs.Tests.{and_left, and_right, of_T, all_entries, at_entry}
use Rattle.text.specs.Ascii.{ascii}
use Rattle.text.specs.Lines.{Line, ended, cut, onto, lines, entry_of}
use Rattle.text.specs.Inner.{line_end, found_in}
use Rattle.text.specs.declared.Found.{Found}
use Rattle.std.specs.Prelude.{Option}
use Rattle.card.specs.Card.{Field, Step, step, stop, read, first, word, word_lines, no_line_left, Left, Verdict, good, refused, form_fault}
use Rattle.std.specs.List.{list_all}
use Rattle.card.specs.Answer.{header_lines}
use Rattle.card.specs.Inner.{text_means, Sensible, left, cores_row, memory_row, HeaderLine, header, no_row, unread, rule_of, after_rows, rows_from, close}
use Rattle.card.specs.declared.Job.{Job}
use Rattle.card.specs.declared.LineRead.{LineRead}
use Rattle.card.specs.declared.table.Meaning.{Meaning}
use Rattle.card.specs.declared.table.Meaning.TheVariants.{Fixed, Cores, Memory}
use Rattle.card.specs.declared.value.Rule.{Rule}
use Rattle.card.specs.declared.value.Rule.TheVariants.{Decimal, Hexadecimal, Status, Digits}

-- the line that was found, or was not
pub first_found : {A : Type 0} (key : List ℕ) (f : List ℕ → Field A) (s : List ℕ) (ls : List Line) {a b : Option Found} → found_in s a ≡ entry_of key ls → a ≡ b
    → first key f ls ≡ read f (found_in s b)
first_found key f s ls e g = ap (read f) (sym e ∙ ap (found_in s) g)

-- the header's lines one by one, as the loop reads them
module _ (card : List ℕ) (rows : List HeaderLine) (at i : ℕ) (ls : List LineRead) where
  -- what the line of row i says
  abbrev pub line_of : Step ℕ
  line_of = first (get_or rows i no_row).key (text_means (rule_of (get_or rows i no_row).meaning (get_or ls cores_row unread).value (get_or ls memory_row unread).value)) (lines (drop at card))

  pub rows_next : {v : ℕ} {rest : List Line} → i < length rows → line_of ≡ step v rest
      → rows_from card (drop i rows) at i ls ≡ rows_from card (drop (i + 1) rows) (line_end card at + 1) (i + 1) (set ls i (record { value = v; at = at }))
  unfolding rows_from
  rows_next h e = rw (add-one i, drop-cons rows i no_row) (simp (e, add-one))

  pub rows_stop : {f : ℕ} → i < length rows → line_of ≡ stop f → rows_from card (drop i rows) at i ls ≡ refused f (i + 1)
  unfolding rows_from
  rows_stop h e = rw (drop-cons rows i no_row) (simp e)

  pub rows_done : length rows ≤ i → rows_from card (drop i rows) at i ls ≡ good (after_rows at i ls)
  unfolding rows_from
  rows_done h = rw (drop_of_length-le rows)

-- a bound on a line's place stays where another that keeps to it is stored
pub bound_set : (l : List LineRead) (i k : ℕ) (v : LineRead) (b : ℕ) → (get_or l k unread).at ≤ b → v.at ≤ b → (get_or (set l i v) k unread).at ≤ b
bound_set [] i k v b h g = h
bound_set (x ∷ l) zero zero v b h g = g
bound_set (x ∷ l) zero (suc k) v b h g = h
bound_set (x ∷ l) (suc i) zero v b h g = h
bound_set (x ∷ l) (suc i) (suc k) v b h g = bound_set l i k v b h g

-- each row's rule is sensible, by one computed test
rule_right : Rule → Bool
rule_right (Decimal l) = ltb 0 l.multiple
rule_right (Hexadecimal l) = ltb 0 l.multiple
rule_right Status = true
rule_right (Digits cores) = true

meaning_right : Meaning → Bool
meaning_right (Fixed rule) = rule_right rule
meaning_right Cores = true
meaning_right Memory = true

right : ℕ → HeaderLine → Bool
right i row = meaning_right row.meaning

all_right : T (all_entries right 0 header)
unfolding right rule_right meaning_right
all_right = tt

sensible_rule : (rule : Rule) → T (rule_right rule) → Sensible rule
unfolding rule_right
sensible_rule (Decimal l) t = ltb-true 0 l.multiple (of_T _ t)
sensible_rule (Hexadecimal l) t = ltb-true 0 l.multiple (of_T _ t)
sensible_rule Status t = tt
sensible_rule (Digits cores) t = tt

sensible_of : (m : Meaning) (cores memory : ℕ) → T (meaning_right m) → Sensible (rule_of m cores memory)
unfolding meaning_right
sensible_of (Fixed rule) cores memory t = sensible_rule rule t
sensible_of Cores cores memory t = tt
sensible_of Memory cores memory t = lit< tt

pub row_right : (i cores memory : ℕ) → i < header_lines → Sensible (rule_of (get_or header i no_row).meaning cores memory)
unfolding right
row_right i cores memory h = sensible_of (get_or header i no_row).meaning cores memory (at_entry right no_row header all_right i h)

pub every_get_d : (f : ℕ → Bool) (s : List ℕ) (i : ℕ) → i < length s → T (list_all f s) → T (f (get_or s i 0))
every_get_d f [] i h t = absurd (not-suc-le-zero h)
every_get_d f (x ∷ s) zero h t = and_left (f x) (list_all f s) t
every_get_d f (x ∷ s) (suc i) h t = every_get_d f s i (omega arith) (and_right (f x) (list_all f s) t)

-- w lines one by one
module _ {B : Type 0} (k : Left → Verdict B) where
  pub words_next : (n : ℕ) (l : Left) {w : ℕ} {ls : List Line} → 0 < n → first (ascii "w=") word l.rest ≡ step w ls
      → word_lines n l (λ ws. k) ≡ word_lines (n - 1) (record { next = l.next + 1; rest = ls }) (λ ws. k)
  unfolding word_lines
  words_next zero l h e = absurd (not-suc-le-zero h)
  words_next (suc n) l h e = let m : suc n - 1 ≡ n = omega arith in simp (e, m)

  pub words_stop : (n : ℕ) (l : Left) {f : ℕ} → 0 < n → first (ascii "w=") word l.rest ≡ stop f → word_lines n l (λ ws. k) ≡ refused f l.next
  unfolding word_lines
  words_stop zero l h e = absurd (not-suc-le-zero h)
  words_stop (suc n) l h e = simp e

  words_done : (n : ℕ) (l : Left) → n ≤ 0 → word_lines n l (λ ws. k) ≡ k l
  unfolding word_lines
  words_done zero l h = refl
  words_done (suc n) l h = absurd (not-suc-le-zero h)

-- nothing is left at the card's end, and only there
module _ {B : Type 0} (n : ℕ) (v : Verdict B) where
  over_onto : (b : ℕ) (ls : List Line) → no_line_left (onto b ls) n v ≡ refused form_fault n
  over_onto b [] = refl
  over_onto b (ended l ∷ ls) = refl
  over_onto b (cut l ∷ ls) = refl

  over_cons : (b : ℕ) (s : List ℕ) (t : Bool) → eqb b 10 ≡ t → no_line_left (lines (b ∷ s)) n v ≡ refused form_fault n
  unfolding lines
  over_cons b s true e = simp e
  over_cons b s false e = rw e (over_onto b (lines s))

  over : (s : List ℕ) → 0 < length s → no_line_left (lines s) n v ≡ refused form_fault n
  over [] h = absurd (not-suc-le-zero h)
  over (b ∷ s) h = over_cons b s (eqb b 10) refl

  module _ (card : List ℕ) (at : ℕ) where
    pub left_over : at < length card → no_line_left (lines (drop at card)) n v ≡ refused form_fault n
    left_over h = over (drop at card) (simp length-drop (omega arith))

    pub none_left : length card ≤ at → no_line_left (lines (drop at card)) n v ≡ v
    unfolding lines
    none_left h = rw (drop_of_length-le card h)

-- after the last w line
module _ (j : Job) (n m : ℕ) (card : List ℕ) (at : ℕ) (h : n ≤ 0) where
  pub words_over : at < length card → word_lines n (left card at m) (λ ws. close j) ≡ refused form_fault m
  words_over g = words_done (close j) n (left card at m) h ∙ left_over m (good j) card at g

  pub words_whole : length card ≤ at → word_lines n (left card at m) (λ ws. close j) ≡ good j
  words_whole g = words_done (close j) n (left card at m) h ∙ none_left m (good j) card at g
