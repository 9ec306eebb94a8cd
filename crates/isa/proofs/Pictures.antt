-- Laws of pictures: what reading and filling depend on, and that a filled picture reads back. Assumes nothing.
use mathlib.Core.Path.{◌≡◌, refl, ◌∙◌, subst, sym, ap}
use mathlib.Core.Bool.{Bool, true, false, ◌&&◌}
use mathlib.Core.List.{List, [], ◌∷◌}
use Prim.Native.Nat.{ℕ, zero, suc, ◌+◌, ◌*◌, ◌/◌, ◌%◌, ◌^◌, ◌<◌}
use native.Mathlib.Nat.{mod-lt, add-mul, mul_assoc, mul_comm, lt_of_lt_of_le, pow-suc}
use native.Mathlib.Numerals.{add-one}
use native.Mathlib.Omega.{arith}
use lib.Pow.{pow_mono, high, low, mod-mod-pow}
use lib.Pow as pow
use lib.Dec.{T, eqb, ltb, eqb→eq, ltb→lt, lt→ltb}
use lib.ListN.{length}
use Rattle.std.specs.Prelude.{if◌then◌else◌}
use Rattle.bits.specs.Word.{bit_at}
use Rattle.bits.proofs.Tests.{and_left, and_right, and_both}
use Rattle.isa.specs.InstructionSet.{Field, D, A, B, I, Mark, must, of, reserved, Row, same_field, fits, width, read, entry, fill}

-- two words have the same bits wherever a picture must have one or has a field
abbrev pub Agree : List Mark → ℕ → ℕ → Type 0
Agree [] w x = Unit
Agree (must v ∷ p) w x = (bit_at (length p) w ≡ bit_at (length p) x) × Agree p w x
Agree (of f ∷ p) w x = (bit_at (length p) w ≡ bit_at (length p) x) × Agree p w x
Agree (reserved ∷ p) w x = Agree p w x

-- such words fit alike and have the same in each field
pub fits_same : (p : List Mark) (w x : ℕ) → Agree p w x → fits p w ≡ fits p x
unfolding fits
fits_same [] w x t = refl
fits_same (must v ∷ p) w x t = rw (t.0, fits_same p w x t.1)
fits_same (of f ∷ p) w x t = fits_same p w x t.1
fits_same (reserved ∷ p) w x t = fits_same p w x t

pub read_same : (f : Field) (p : List Mark) (w x : ℕ) → Agree p w x → read f p w ≡ read f p x
unfolding read
read_same f [] w x t = refl
read_same f (must v ∷ p) w x t = read_same f p w x t.1
read_same f (of g ∷ p) w x t = rw (t.0, read_same f p w x t.1)
read_same f (reserved ∷ p) w x t = read_same f p w x t

pub entry_same : (r : Row) (w x : ℕ) → Agree r.bits w x → entry r w ≡ entry r x
unfolding entry
entry_same r w x t =
    rw (read_same D r.bits w x t, read_same A r.bits w x t, read_same B r.bits w x t, read_same I r.bits w x t)

-- a digit above a number of k bits
digit_lt : (k b r : ℕ) → b < 2 → r < 2 ^ k → b * 2 ^ k + r < 2 ^ suc k
digit_lt k b r p q = let e : 2 ^ suc k ≡ 2 ^ k * 2 = pow-suc 2 k in go b p e
  where
    go : (b : ℕ) → b < 2 → 2 ^ suc k ≡ 2 ^ k * 2 → b * 2 ^ k + r < 2 ^ suc k
    go zero p e = omega arith
    go (suc zero) p e = omega arith
    go (suc (suc b)) p e = absurd (omega arith)

pub read_lt : (f : Field) (p : List Mark) (w : ℕ) → read f p w < 2 ^ width f p
unfolding read width
read_lt f [] w = omega arith
read_lt f (must v ∷ p) w = read_lt f p w
read_lt f (of g ∷ p) w = go (same_field f g) (read_lt f p w)
  where
    go : (b : Bool) → read f p w < 2 ^ width f p →
        (if b then bit_at (length p) w * 2 ^ width f p + read f p w else read f p w) < 2 ^ (if b then suc (width f p) else width f p)
    go true h = digit_lt (width f p) (bit_at (length p) w) (read f p w) (mod-lt (w / 2 ^ length p) (omega arith)) h
    go false h = h
read_lt f (reserved ∷ p) w = read_lt f p w

-- v has for each field the number that w has
abbrev pub Holds : List Mark → (Field → ℕ) → ℕ → Type 0
Holds p v w = (f : Field) → v f % 2 ^ width f p ≡ read f p w

-- the same bit by bit
abbrev Matches : List Mark → (Field → ℕ) → ℕ → Type 0
Matches [] v w = Unit
Matches (must b ∷ p) v w = Matches p v w
Matches (of f ∷ p) v w = (bit_at (width f p) (v f) ≡ bit_at (length p) w) × Matches p v w
Matches (reserved ∷ p) v w = Matches p v w

-- n's k + 1 low bits are the digit b above r: so its k low bits are r, and b is bit k
module _ (k n b r : ℕ) (hb : b < 2) (hr : r < 2 ^ k) (e : n % 2 ^ suc k ≡ b * 2 ^ k + r) where
  low_digits : n % 2 ^ k ≡ r
  low_digits = sym (mod-mod-pow n 1 k) ∙ ap (λ m. m % 2 ^ k) (ap (λ j. n % 2 ^ j) (sym (sym (add-one k) ∙ swap)) ∙ e) ∙ low b k hr
    where
      swap : k + 1 ≡ 1 + k
      swap = omega arith

  high_digit : bit_at k n ≡ b
  high_digit = sym (pow.field n 1 k) ∙ ap (λ m. m / 2 ^ k) (ap (λ j. n % 2 ^ j) (sym (sym (add-one k) ∙ swap)) ∙ e) ∙ high b k hr
    where
      swap : k + 1 ≡ 1 + k
      swap = omega arith

same_refl : (f : Field) → same_field f f ≡ true
same_refl D = refl
same_refl A = refl
same_refl B = refl
same_refl I = refl

matches : (p : List Mark) (v : Field → ℕ) (w : ℕ) → Holds p v w → Matches p v w
unfolding read width
matches [] v w h = tt
matches (must b ∷ p) v w h = matches p v w h
matches (of g ∷ p) v w h = (
  high_digit (width g p) (v g) (bit_at (length p) w) (read g p w) (mod-lt (w / 2 ^ length p) (omega arith)) (read_lt g p w) (rw (same_refl g) at (h g)),
  matches p v w (λ f. below f (same_field f g) (h f)),
)
  where
    below : (f : Field) (b : Bool) →
        v f % 2 ^ (if b then suc (width f p) else width f p) ≡ (if b then bit_at (length p) w * 2 ^ width f p + read f p w else read f p w) →
        v f % 2 ^ width f p ≡ read f p w
    below f true e =
        low_digits (width f p) (v f) (bit_at (length p) w) (read f p w) (mod-lt (w / 2 ^ length p) (omega arith)) (read_lt f p w) e
    below f false e = e
matches (reserved ∷ p) v w h = matches p v w h

-- the bits that must be there are bits
must_bit : (v w j : ℕ) (b : Bool) → T (eqb (bit_at j w) v && b) → v < 2
must_bit v w j b t =
    subst (λ (n : ℕ). n < 2) (eqb→eq (bit_at j w) v (and_left (eqb (bit_at j w) v) b t)) (mod-lt (w / 2 ^ j) (omega arith))

abbrev pub binary : List Mark → Bool
binary [] = true
binary (must b ∷ p) = ltb b 2 && binary p
binary (of f ∷ p) = binary p
binary (reserved ∷ p) = binary p

fits_binary : (p : List Mark) (w : ℕ) → T (fits p w) → T (binary p)
unfolding fits
fits_binary [] w t = tt
fits_binary (must b ∷ p) w t =
    and_both (ltb b 2) (binary p) (lt→ltb b 2 (must_bit b w (length p) (fits p w) t)) (fits_binary p w (and_right (eqb (bit_at (length p) w) b) (fits p w) t))
fits_binary (of f ∷ p) w t = fits_binary p w t
fits_binary (reserved ∷ p) w t = fits_binary p w t

pub fill_lt : (p : List Mark) (v : Field → ℕ) → T (binary p) → fill p v < 2 ^ length p
unfolding fill
fill_lt [] v t = omega arith
fill_lt (must b ∷ p) v t =
    digit_lt (length p) b (fill p v) (ltb→lt b 2 (and_left (ltb b 2) (binary p) t)) (fill_lt p v (and_right (ltb b 2) (binary p) t))
fill_lt (of f ∷ p) v t =
    digit_lt (length p) (bit_at (width f p) (v f)) (fill p v) (mod-lt (v f / 2 ^ width f p) (omega arith)) (fill_lt p v t)
fill_lt (reserved ∷ p) v t = lt_of_lt_of_le (fill_lt p v t) (pow_mono (omega arith))

pub fill_fits_lt : (p : List Mark) (v : Field → ℕ) (w : ℕ) → T (fits p w) → fill p v < 2 ^ length p
fill_fits_lt p v w t = fill_lt p v (fits_binary p w t)

-- a number H above k bits, of which the highest is b
module _ (H k b r : ℕ) where
  regroup : H * 2 ^ suc k + (b * 2 ^ k + r) ≡ (H * 2 + b) * 2 ^ k + r
  regroup =
      let e : 2 ^ suc k ≡ 2 ^ k * 2 = pow-suc 2 k in
      let f : H * (2 ^ k * 2) ≡ H * 2 * 2 ^ k = ap (λ n. H * n) (mul_comm (2 ^ k) 2) ∙ sym (mul_assoc H 2 (2 ^ k)) in
      let g : (H * 2 + b) * 2 ^ k ≡ H * 2 * 2 ^ k + b * 2 ^ k = add-mul (H * 2) b (2 ^ k) in
      rw e (omega arith)

  top_digit : b < 2 → r < 2 ^ k → bit_at k (H * 2 ^ suc k + (b * 2 ^ k + r)) ≡ b
  top_digit p q = rw (regroup, high (H * 2 + b) k q) (omega arith)

-- a picture filled with w's own numbers, below any bits H, has w's bits wherever it has one
filled : (p : List Mark) (H : ℕ) (v : Field → ℕ) (w : ℕ) → T (fits p w) → Matches p v w → Agree p (H * 2 ^ length p + fill p v) w
unfolding fits fill
filled [] H v w t m = tt
filled (must b ∷ p) H v w t m =
    let u : T (fits p w) = and_right (eqb (bit_at (length p) w) b) (fits p w) t in
    let e : bit_at (length p) w ≡ b = eqb→eq (bit_at (length p) w) b (and_left (eqb (bit_at (length p) w) b) (fits p w) t) in (
      top_digit H (length p) b (fill p v) (must_bit b w (length p) (fits p w) t) (fill_fits_lt p v w u) ∙ sym e,
      subst (λ (n : ℕ). Agree p n w) (sym (regroup H (length p) b (fill p v))) (filled p (H * 2 + b) v w u m),
    )
filled (of f ∷ p) H v w t m =
    let b = bit_at (width f p) (v f) in (
      top_digit H (length p) b (fill p v) (mod-lt (v f / 2 ^ width f p) (omega arith)) (fill_fits_lt p v w t) ∙ m.0,
      subst (λ (n : ℕ). Agree p n w) (sym (regroup H (length p) b (fill p v))) (filled p (H * 2 + b) v w t m.1),
    )
filled (reserved ∷ p) H v w t m =
    let z : H * 2 ^ suc (length p) + (0 * 2 ^ length p + fill p v) ≡ H * 2 ^ suc (length p) + fill p v = omega arith in
    subst (λ (n : ℕ). Agree p n w) (sym (regroup H (length p) 0 (fill p v)) ∙ z) (filled p (H * 2 + 0) v w t m)

pub filled_agrees : (p : List Mark) (H : ℕ) (v : Field → ℕ) (w : ℕ) → T (fits p w) → Holds p v w → Agree p (H * 2 ^ length p + fill p v) w
filled_agrees p H v w t h = filled p H v w t (matches p v w h)
