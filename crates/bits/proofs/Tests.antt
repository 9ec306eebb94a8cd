-- Tests that the checker computes, over a window of numbers or a table, and what they say at each number or entry. Assumes nothing.
use Rattle.std.proofs.Common.{◌≡◌, ℕ, zero, suc, ◌+◌, ◌-◌, ◌<◌, ◌≤◌, Bool, true, false, not, ◌&&◌, ◌||◌, T, eqb, List, [], ◌∷◌, length, get_or, sym, refl, ◌∙◌, subst, le_of_suc-le-suc, not-suc-le-zero, add-zero, add-suc, suc-add, zero-add, arith, eqb→eq, ne_eqb}

pub and_left : (a b : Bool) → T (a && b) → T a
and_left true b t = tt
and_left false b t = t

pub and_right : (a b : Bool) → T (a && b) → T b
and_right true b t = t
and_right false b t = absurd t

pub and_both : (a b : Bool) → T a → T b → T (a && b)
and_both true b t u = u
and_both false b t u = t

pub of_T : (b : Bool) → T b → b ≡ true
of_T true t = refl
of_T false t = absurd t

pub T_of : (b : Bool) → b ≡ true → T b
T_of true e = tt
T_of false e = absurd (let z : ◌≡◌ {A = ℕ} 0 1 = cc in omega arith)

-- the tests of a list, one by one
abbrev pub Each : List Bool → Type 0
Each [] = Unit
Each (b ∷ l) = T b × Each l

-- f passes at n numbers from low on
abbrev pub everywhere : (ℕ → Bool) → ℕ → ℕ → Bool
everywhere f low zero = true
everywhere f low (suc n) = f low && everywhere f (suc low) n

from_low : (f : ℕ → Bool) (low n : ℕ) → T (everywhere f low n) → (k : ℕ) → k < n → T (f (low + k))
from_low f low zero t k h = absurd (not-suc-le-zero h)
from_low f low (suc n) t zero h = subst (λ (m : ℕ). T (f m)) (sym (add-zero low)) (and_left (f low) (everywhere f (suc low) n) t)
from_low f low (suc n) t (suc k) h =
    subst (λ (m : ℕ). T (f m)) (suc-add low k ∙ sym (add-suc low k))
    (from_low f (suc low) n (and_right (f low) (everywhere f (suc low) n) t) k (le_of_suc-le-suc h))

pub within : (f : ℕ → Bool) (low n : ℕ) → T (everywhere f low n) → (x : ℕ) → low ≤ x → x < low + n → T (f x)
within f low n t x a b =
    let e : low + (x - low) ≡ x = omega arith in
    let h : x - low < n = omega arith in
    subst (λ (m : ℕ). T (f m)) e (from_low f low n t (x - low) h)

abbrev pub member : ℕ → List ℕ → Bool
member x [] = false
member x (k ∷ ks) = eqb x k || member x ks

-- x is none of ks, in the shape that a match leaves: the last key outermost
abbrev pub NoneOf : ℕ → List ℕ → Type 0
NoneOf x [] = Unit
NoneOf x (k ∷ ks) = NoneOf x ks × (x ≡ k → ⊥)

pub none_member : (x : ℕ) (ks : List ℕ) → NoneOf x ks → member x ks ≡ false
none_member x [] h = refl
none_member x (k ∷ ks) h = rw (ne_eqb x k h.1, none_member x ks h.0)

-- the same where f need not pass at a match's keys, and x is none of them
pub within_but : (f : ℕ → Bool) (ks : List ℕ) (low n : ℕ) → T (everywhere (λ x. member x ks || f x) low n) → (x : ℕ) → low ≤ x → x < low + n →
    NoneOf x ks → T (f x)
within_but f ks low n t x a b h = rw (none_member x ks h) at (within (λ x. member x ks || f x) low n t x a b)

-- h and f are the same at each number of a window, but for a match's keys
pub equal_but : (h f : ℕ → ℕ) (ks : List ℕ) (low n : ℕ) → T (everywhere (λ x. member x ks || eqb (h x) (f x)) low n) → (x : ℕ) → low ≤ x →
    x < low + n → NoneOf x ks → h x ≡ f x
equal_but h f ks low n t x a b k = eqb→eq (h x) (f x) (within_but (λ x. eqb (h x) (f x)) ks low n t x a b k)

-- the same wherever a condition holds
pub equal_when : (g : ℕ → Bool) (h f : ℕ → ℕ) (low n : ℕ) → T (everywhere (λ x. not (g x) || eqb (h x) (f x)) low n) → (x : ℕ) → low ≤ x →
    x < low + n → g x ≡ true → h x ≡ f x
equal_when g h f low n t x a b e =
    eqb→eq (h x) (f x) (rw e at (within (λ x. not (g x) || eqb (h x) (f x)) low n t x a b))

module _ {A : Type 0} (f : ℕ → A → Bool) where
  -- f passes at each entry of a table and its place, counted from i
  abbrev pub all_entries : ℕ → List A → Bool
  all_entries i [] = true
  all_entries i (x ∷ xs) = f i x && all_entries (suc i) xs

  from_entry : (z : A) (xs : List A) (i : ℕ) → T (all_entries i xs) → (k : ℕ) → k < length xs → T (f (i + k) (get_or xs k z))
  from_entry z [] i t k h = absurd (not-suc-le-zero h)
  from_entry z (x ∷ xs) i t zero h = subst (λ (m : ℕ). T (f m x)) (sym (add-zero i)) (and_left (f i x) (all_entries (suc i) xs) t)
  from_entry z (x ∷ xs) i t (suc k) h =
      subst (λ (m : ℕ). T (f m (get_or xs k z))) (suc-add i k ∙ sym (add-suc i k))
      (from_entry z xs (suc i) (and_right (f i x) (all_entries (suc i) xs) t) k (le_of_suc-le-suc h))

  pub at_entry : (z : A) (xs : List A) → T (all_entries 0 xs) → (k : ℕ) → k < length xs → T (f k (get_or xs k z))
  at_entry z xs t k h = subst (λ (m : ℕ). T (f m (get_or xs k z))) (zero-add k) (from_entry z xs 0 t k h)
