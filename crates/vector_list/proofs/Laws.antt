-- The rules on a list of vectors, as a loop tests them, and what a list that keeps them is good for. Assumes nothing.
use mathlib.Core.Bool.{Bool, true, false, ◌&&◌, ◌||◌, not}
use mathlib.Core.List.{List}
use mathlib.Core.Path.{◌≡◌, refl, sym, ap, ◌∙◌}
use Prim.Native.Nat.{ℕ, zero, suc, ◌+◌, ◌%◌, ◌≤◌, ◌<◌}
use native.Mathlib.Numerals.{add-one}
use native.Mathlib.Omega.{arith}
use lib.Dec.{T, eqb, ltb, eqb→eq}
use lib.ListN.{length, get_or, take}
use lib.Seq.{take-length}
use Rattle.std.specs.Prelude.{Some, None, is_some, is_none}
use Rattle.std.specs.List.{list_all, list_any}
use Rattle.std.proofs.lemmas.List.Folds.{list_all_more, list_any_more}
use Rattle.bits.specs.Every.{every_below}
use Rattle.bits.proofs.Every.{below_at, of_below}
use Rattle.std.specs.Prelude.{if◌then◌else◌}
use Rattle.bits.proofs.Cases.{by_equality}
use Rattle.bits.proofs.Tests.{and_left, and_right, and_both, of_T, T_of}
use borrow.Author.Tests.{eq-eqb, ne_eqb}
use Rattle.isa.specs.Vectors.{vector_count, old_vectors, vector}
use Rattle.isa.specs.declared.vectors.Cause.{Cause}
use Rattle.isa.specs.declared.vectors.Cause.TheVariants.{Bus, Alignment, Illegal, Range, Syscall, Trap, Interrupt}
use Rattle.vector_list.specs.Rules.{vector_end, is_vector, is_new, first_repeat, are_distinct, repeat_in, vectors_fit}

-- ---- the first repeat, place by place

module _ (vs : List ℕ) (i n m : ℕ) (e : n ≡ m + 1) where
  pub repeat_next : is_new vs i ≡ true → first_repeat vs i n ≡ first_repeat vs (i + 1) m
  unfolding first_repeat
  repeat_next h = rw (e, add-one m, h)

  pub repeat_here : is_new vs i ≡ false → first_repeat vs i n ≡ i
  unfolding first_repeat
  repeat_here h = rw (e, add-one m, h)

pub repeat_none : (vs : List ℕ) (i : ℕ) → first_repeat vs i 0 ≡ i
unfolding first_repeat
repeat_none vs i = refl

-- ---- no place repeats an address exactly if the first repeat is past them all

-- the first of n places, by its test b
first_new : (vs : List ℕ) (i n j : ℕ) (b : Bool) → is_new vs i ≡ b → (if b then first_repeat vs (i + 1) n else i) ≡ i + suc n → i ≤ j
    → (first_repeat vs (i + 1) n ≡ i + 1 + n → i + 1 ≤ j → is_new vs j ≡ true) → is_new vs j ≡ true
first_new vs i n j true b e l more =
    let z : i + suc n ≡ i + 1 + n = omega arith in
    by_equality i j (λ q. rw (← q) b) (λ q. more (e ∙ z) (omega arith))
first_new vs i n j false b e l more = absurd (omega arith)

each_new : (vs : List ℕ) (i n : ℕ) → first_repeat vs i n ≡ i + n → (j : ℕ) → i ≤ j → j < i + n → is_new vs j ≡ true
unfolding first_repeat
each_new vs i zero e j l h = absurd (omega arith)
each_new vs i (suc n) e j l h = first_new vs i n j (is_new vs i) refl e l (λ e l. each_new vs (i + 1) n e j l (omega arith))

all_new : (vs : List ℕ) (i n : ℕ) → ((j : ℕ) → i ≤ j → j < i + n → is_new vs j ≡ true) → first_repeat vs i n ≡ i + n
unfolding first_repeat
all_new vs i zero f = omega arith
all_new vs i (suc n) f =
    let z : i + 1 + n ≡ i + suc n = omega arith in
    rw (f i (omega arith) (omega arith)) (all_new vs (i + 1) n (λ j l h. f j (omega arith) (omega arith)) ∙ z)

module _ (vs : List ℕ) (n : ℕ) where
  none_repeats : T (are_distinct vs n) → first_repeat vs 0 n ≡ n
  none_repeats t =
      let z : 0 + n ≡ n = omega arith in
      all_new vs 0 n (λ j l h. of_T (is_new vs j) (below_at (is_new vs) n t j (omega arith))) ∙ z

  no_repeat : first_repeat vs 0 n ≡ n → T (are_distinct vs n)
  no_repeat e =
      let z : n ≡ 0 + n = omega arith in
      of_below (is_new vs) n (λ j h. T_of (is_new vs j) (each_new vs 0 n (e ∙ z) j (omega arith) (omega arith)))

  by_test : (b : Bool) → are_distinct vs n ≡ b → b ≡ eqb (first_repeat vs 0 n) n
  by_test true b = sym (eq-eqb (first_repeat vs 0 n) n (none_repeats (T_of _ b)))
  by_test false b = sym (ne_eqb (first_repeat vs 0 n) n (λ e. rw b at (no_repeat e)))

  pub distinct_first : are_distinct vs n ≡ eqb (first_repeat vs 0 n) n
  distinct_first = by_test (are_distinct vs n) refl

module _ (vs : List ℕ) where
  pub repeat_found : (i : ℕ) → first_repeat vs 0 (length vs) ≡ i → i < length vs → Some i ≡ repeat_in vs
  unfolding repeat_in
  repeat_found i e h = rw (distinct_first vs (length vs), e, ne_eqb i (length vs) (λ q. omega arith))

  pub repeat_nowhere : first_repeat vs 0 (length vs) ≡ length vs → None ≡ repeat_in vs
  unfolding repeat_in
  repeat_nowhere e = rw (distinct_first vs (length vs), eq-eqb (first_repeat vs 0 (length vs)) (length vs) e)

  none_repeated : is_none (repeat_in vs) ≡ are_distinct vs (length vs)
  unfolding repeat_in
  none_repeated = by_answer (are_distinct vs (length vs))
    where
      by_answer : (b : Bool) → is_none (if b then None else Some (first_repeat vs 0 (length vs))) ≡ b
      by_answer true = refl
      by_answer false = refl

-- what the answer says of a list of n
module _ (vs : List ℕ) (n : ℕ) (l : length vs ≡ n) where
  pub repeats_at : {i : ℕ} → repeat_in vs ≡ Some i → (are_distinct vs n ≡ false) × (first_repeat vs 0 n ≡ i)
  unfolding repeat_in
  repeats_at {i} e = go (are_distinct vs n) refl (rw l at e)
    where
      go : (b : Bool) → are_distinct vs n ≡ b → (if b then None else Some (first_repeat vs 0 n)) ≡ Some i → (are_distinct vs n ≡ false) × (first_repeat vs 0 n ≡ i)
      go true d f = absurd cc
      go false d f = (d, cc)

  pub repeats_nowhere : repeat_in vs ≡ None → are_distinct vs n ≡ true
  unfolding repeat_in
  repeats_nowhere e = go (are_distinct vs n) refl (rw l at e)
    where
      go : (b : Bool) → are_distinct vs n ≡ b → (if b then None else Some (first_repeat vs 0 n)) ≡ None → are_distinct vs n ≡ true
      go true d f = d
      go false d f = absurd cc

-- ---- tests of a list's first n as the library makes them

neither : (a b : Bool) → not (a || b) ≡ not a && not b
neither true b = refl
neither false b = refl

module _ (p : ℕ → Bool) (xs : List ℕ) where
  all_below : (n : ℕ) → n ≤ length xs → list_all p (take n xs) ≡ every_below n (λ i. p (get_or xs i 0))
  unfolding every_below
  all_below zero h = refl
  all_below (suc n) h = rw (← add-one n) (list_all_more p xs n 0 h) ∙ ap (λ b. b && p (get_or xs n 0)) (all_below n (omega arith))

  pub all_of : list_all p xs ≡ every_below (length xs) (λ i. p (get_or xs i 0))
  all_of = ap (list_all p) (sym (take-length xs)) ∙ all_below (length xs) (omega arith)

  none_below : (n : ℕ) → n ≤ length xs → not (list_any p (take n xs)) ≡ every_below n (λ i. not (p (get_or xs i 0)))
  unfolding every_below
  none_below zero h = refl
  none_below (suc n) h =
      rw (← add-one n) (ap not (list_any_more p xs n 0 h))
      ∙ neither (list_any p (take n xs)) (p (get_or xs n 0))
      ∙ ap (λ b. b && not (p (get_or xs n 0))) (none_below n (omega arith))

pub new_by_search : (vs : List ℕ) (i : ℕ) → i < length vs → not (list_any (λ y. eqb y (get_or vs i 0)) (take i vs)) ≡ is_new vs i
unfolding is_new
new_by_search vs i h = none_below (λ y. eqb y (get_or vs i 0)) vs i (omega arith)

flipped : (a b : Bool) → a ≡ not b → b ≡ not a
flipped a true e = sym (ap not e)
flipped a false e = sym (ap not e)

-- seven addresses fit if none repeats
pub fits_if_new : (vs : List ℕ) → length vs ≡ vector_count → list_all is_vector vs ≡ true → (b : Bool) → is_some (repeat_in vs) ≡ not b → b ≡ vectors_fit vs
unfolding vectors_fit
fits_if_new vs l a b e =
    let f : every_below vector_count (λ i. is_vector (get_or vs i 0)) ≡ true = rw (← l) (sym (all_of is_vector vs) ∙ a) in
    flipped _ b e ∙ none_repeated vs ∙ rw (l, f)

-- ---- a list that keeps the rules

abbrev Addresses : List ℕ → ℕ → Type 0
Addresses vs n = T (every_below n (λ i. is_vector (get_or vs i 0)))

pub fits_of : (vs : List ℕ) → length vs ≡ vector_count → Addresses vs vector_count → T (are_distinct vs vector_count) → T (vectors_fit vs)
unfolding vectors_fit
fits_of vs l a d = rw l (and_both (every_below vector_count (λ i. is_vector (get_or vs i 0))) (are_distinct vs vector_count) a d)

pub old_fits : T (vectors_fit old_vectors)
unfolding vectors_fit every_below is_vector is_new first_repeat
old_fits = tt

module _ (vs : List ℕ) (t : T (vectors_fit vs)) where
  pub fit_seven : length vs ≡ vector_count
  unfolding vectors_fit
  fit_seven = eqb→eq (length vs) vector_count (and_left (eqb (length vs) vector_count) (every_below vector_count (λ i. is_vector (get_or vs i 0)) && are_distinct vs vector_count) t)

  fit_addresses : Addresses vs vector_count
  unfolding vectors_fit
  fit_addresses =
      let every = every_below vector_count (λ i. is_vector (get_or vs i 0)) in
      let distinct = are_distinct vs vector_count in
      and_left every distinct (and_right (eqb (length vs) vector_count) (every && distinct) t)

  place_multiple : (i : ℕ) → i < vector_count → get_or vs i 0 % 4 ≡ 0
  unfolding is_vector
  place_multiple i h =
      eqb→eq (get_or vs i 0 % 4) 0 (and_left (eqb (get_or vs i 0 % 4) 0) (ltb (get_or vs i 0) vector_end) (below_at (λ i. is_vector (get_or vs i 0)) vector_count fit_addresses i h))

  fit_distinct : T (are_distinct vs vector_count)
  unfolding vectors_fit
  fit_distinct =
      let every = every_below vector_count (λ i. is_vector (get_or vs i 0)) in
      let distinct = are_distinct vs vector_count in
      and_right every distinct (and_right (eqb (length vs) vector_count) (every && distinct) t)

  -- no two addresses are equal
  pub fit_apart : (i j : ℕ) → i < j → j < vector_count → get_or vs i 0 ≡ get_or vs j 0 → ⊥
  unfolding is_new
  fit_apart i j h g e =
      let new = below_at (is_new vs) vector_count fit_distinct j g in
      let other : T (not (eqb (get_or vs i 0) (get_or vs j 0))) = below_at (λ k. not (eqb (get_or vs k 0) (get_or vs j 0))) j new i h in
      rw (eq-eqb (get_or vs i 0) (get_or vs j 0) e) at other

  pub fit_multiple : (c : Cause) → vector vs c % 4 ≡ 0
  fit_multiple Bus = place_multiple 0 (omega arith)
  fit_multiple Alignment = place_multiple 1 (omega arith)
  fit_multiple Illegal = place_multiple 2 (omega arith)
  fit_multiple Range = place_multiple 3 (omega arith)
  fit_multiple Syscall = place_multiple 4 (omega arith)
  fit_multiple Trap = place_multiple 5 (omega arith)
  fit_multiple Interrupt = place_multiple 6 (omega arith)
