-- The file's lines one by one, as the loop reads them. Assumes nothing.
use Prim.Native.Nat.{ℕ, ◌+◌, ◌≤◌, ◌<◌}
use Prim.Native.String.{String}
use mathlib.Core.Path.{◌≡◌, ◌∙◌}
use mathlib.Core.List.{List, [], ◌∷◌, ◌++◌, append_assoc, append-nil}
use native.Mathlib.Numerals.{add-one}
use lib.ListN.{length, take, drop, get_or, set, drop_of_length-le}
use lib.Seq.{drop-cons, take-suc-set, take_all}
use Rattle.text.specs.Ascii.{ascii}
use Rattle.text.specs.Lines.{Line}
use Rattle.card.specs.Card.{step, stop, first, Left, Verdict, refused, no_line_left}
use Rattle.vectors_file.specs.File.{address, address_lines, distinct}

-- the line of the key at place i
module _ {B : Type 0} (keys : List String) (i : ℕ) (left : Left) (k : List ℕ → Left → Verdict B) where
  pub lines_next : {v : ℕ} {ls : List Line} → i < length keys → first (ascii (get_or keys i "")) address left.rest ≡ step v ls
      → address_lines (drop i keys) left k ≡ address_lines (drop (i + 1) keys) (record { next = left.next + 1; rest = ls }) (λ vs. k (v ∷ vs))
  unfolding address_lines
  lines_next h e = rw (add-one i, drop-cons keys i "") (simp e)

  pub lines_stop : {f : ℕ} → i < length keys → first (ascii (get_or keys i "")) address left.rest ≡ stop f → address_lines (drop i keys) left k ≡ refused f left.next
  unfolding address_lines
  lines_stop h e = rw (drop-cons keys i "") (simp e)

  pub lines_done : length keys ≤ i → address_lines (drop i keys) left k ≡ k [] left
  unfolding address_lines
  lines_done h = rw (drop_of_length-le keys)

-- what follows the last line
abbrev pub close : List ℕ → Left → Verdict (List ℕ)
close vectors left = no_line_left left.rest left.next (distinct vectors)

-- one address more is stored
pub one_more : {A : Type 0} (f : List ℕ → A) (list : List ℕ) (i v : ℕ) → i < length list
    → ◌≡◌ {A = List ℕ → A} (λ vs. f (take i list ++ (v ∷ vs))) (λ vs. f (take (i + 1) (set list i v) ++ vs))
one_more f list i v h = simp (add-one, take-suc-set list i v h, append_assoc)

pub all_taken : (list : List ℕ) (n : ℕ) → length list ≤ n → take n list ++ [] ≡ list
all_taken list n h = append-nil (take n list) ∙ take_all n list h
