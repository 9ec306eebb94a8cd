-- The list that a file says keeps the rules on vectors, by the definitions alone. Assumes nothing.
use Prim.Native.Nat.{ℕ, suc, ◌+◌, ◌-◌, ◌<◌}
use Prim.Native.String.{String}
use mathlib.Core.Path.{◌≡◌, refl, ap}
use mathlib.Core.Bool.{Bool, true, false}
use mathlib.Core.List.{List, [], ◌∷◌}
use native.Mathlib.Omega.{arith}
use borrow.Author.Tests.{eq-eqb, lt-ltb}
use lib.Dec.{T, leb}
use lib.ListN.{length, get_or}
use Rattle.bits.proofs.Every.{of_below}
use Rattle.bits.proofs.Tests.{and_both, T_of}
use Rattle.text.specs.Ascii.{ascii}
use Rattle.text.specs.Lines.{Line, Entry, entry, missing, entry_of, lines}
use Rattle.text.specs.Numbers.{hexadecimal}
use Rattle.card.specs.Card.{Field, value, fault, Step, step, stop, followed, read, first, onward, Left, Verdict, good, max_card}
use Rattle.std.specs.List.{list_all}
use Rattle.card.proofs.Laws.{every_get_d}
use Rattle.card.proofs.Bounds.{never, Within, limited_value, none_good}
use Rattle.isa.specs.Vectors.{vector_count, old_vectors}
use Rattle.vector_list.specs.Rules.{vector_end, is_vector, are_distinct, vectors_fit}
use Rattle.vector_list.proofs.Laws.{fits_of, old_fits}
use Rattle.vectors_file.specs.File.{File, bytes, absent, unreadable, keys, address, address_lines, distinct, content, vectors_say}

-- ---- a line's address

within_vector : {v : ℕ} → Within 0 (vector_end - 1) 4 v → T (is_vector v)
unfolding is_vector
within_vector {v} w = let h : v < vector_end = omega (arith, w.below) in rw (eq-eqb _ _ w.multiple, lt-ltb _ _ h) tt

field_vector : (t : List ℕ) (ls : List Line) (x : Field ℕ) {v : ℕ} {rest : List Line} → address t ≡ x → followed ls x ≡ step v rest → T (is_vector v)
field_vector t ls (value w) {v} e h = let s : w ≡ v = cc in rw s at (within_vector (limited_value 0 (vector_end - 1) 4 (hexadecimal t) e))
field_vector t ls (fault f) e h = absurd (let z : ◌≡◌ {A = ℕ} 0 1 = cc in omega arith)

entry_vector : (e : Entry) {v : ℕ} {ls : List Line} → read address e ≡ step v ls → T (is_vector v)
entry_vector (entry t ls) h = field_vector t ls (address t) refl h
entry_vector missing h = absurd (let z : ◌≡◌ {A = ℕ} 0 1 = cc in omega arith)

-- ---- the file's lines: their addresses are as many as the keys, each is a vector, and what follows them is good

by_line : {P : Type 0} (n : ℕ) (s : Step ℕ) (k : ℕ → Left → Verdict (List ℕ)) {vs : List ℕ} → ((v : ℕ) (ls : List Line) → s ≡ step v ls → T (is_vector v))
    → onward n s k ≡ good vs → ((v : ℕ) (r : Left) → T (is_vector v) → k v r ≡ good vs → P) → P
by_line n (step v ls) k is e go = go v (record { next = n + 1; rest = ls }) (is v ls refl) e
by_line n (stop f) k is e go = never e

by_lines : {P : Type 0} (keys : List String) (left : Left) (k : List ℕ → Left → Verdict (List ℕ)) {vs : List ℕ} → address_lines keys left k ≡ good vs
    → ((ws : List ℕ) (r : Left) → length ws ≡ length keys → T (list_all is_vector ws) → k ws r ≡ good vs → P) → P
unfolding address_lines
by_lines [] left k e go = go [] left refl tt e
by_lines (key ∷ keys) left k e go =
    by_line left.next (first (ascii key) address left.rest) _ (λ v ls h. entry_vector (entry_of (ascii key) left.rest) h) e (λ v r t e.
    by_lines keys r (λ ws. k (v ∷ ws)) e (λ ws r l u e. go (v ∷ ws) r (ap suc l) (and_both (is_vector v) (list_all is_vector ws) t u) e))

distinct_fits : (ws : List ℕ) (b : Bool) {vs : List ℕ} → are_distinct ws vector_count ≡ b → length ws ≡ vector_count → T (list_all is_vector ws) → distinct ws ≡ good vs → T (vectors_fit vs)
unfolding distinct
distinct_fits ws true {vs} b l t e =
    let g : good ws ≡ good vs = rw b at e in
    let s : ws ≡ vs = cc in
    rw s at (fits_of ws l (of_below (λ i. is_vector (get_or ws i 0)) vector_count (λ i h. every_get_d is_vector ws i (rw l h) t)) (T_of _ b))
distinct_fits ws false b l t e = never (rw b at e)

content_fits : (left : Left) {vs : List ℕ} → content left ≡ good vs → T (vectors_fit vs)
unfolding content
content_fits left e =
    by_lines keys left _ e (λ ws r l t e. distinct_fits ws (are_distinct ws vector_count) refl l t (none_good r.rest r.next e))

whole_fits : (file : List ℕ) (b : Bool) {vs : List ℕ} → leb (length file) max_card ≡ b → vectors_say (bytes file) ≡ good vs → T (vectors_fit vs)
unfolding vectors_say
whole_fits file true l e = content_fits (record { next = 1; rest = lines file }) (rw l at e)
whole_fits file false l e = never (rw l at e)

pub good_fits : (f : File) (vs : List ℕ) → vectors_say f ≡ good vs → T (vectors_fit vs)
unfolding vectors_say
good_fits (bytes file) vs e = whole_fits file (leb (length file) max_card) refl e
good_fits absent vs e = let s : old_vectors ≡ vs = cc in rw s at old_fits
good_fits unreadable vs e = never e
