-- Laws of the table of rows: what the first row that fits depends on, and which row is whose. Assumes nothing.
use mathlib.Core.Path.{◌≡◌, refl, ◌∙◌, subst, sym, ap}
use mathlib.Core.Bool.{Bool, true, false, ◌&&◌, ◌||◌, not, and-false}
use mathlib.Core.List.{List, [], ◌∷◌}
use mathlib.Core.Logic.{◌⊎◌, inl, inr, ⊎_elim}
use Prim.Native.Nat.{ℕ, ◌+◌, ◌-◌, ◌*◌, ◌/◌, ◌%◌, ◌^◌, ◌≤◌, ◌<◌}
use native.Mathlib.Nat.{mod-lt, mul_assoc}
use native.Mathlib.Omega.{arith}
use lib.Pow.{pow_pos, pow-add, pow_mono, high, low, shr-shr, mod-mod-pow, shl_lt}
use lib.Pow as pow
use lib.Dec.{T, eqb, leb, ltb, eqb→eq, eqb_refl, leb→le, ltb→lt, T_not}
use lib.ListN.{length}
use borrow.Author.Tests.{eq-eqb, ne_eqb}
use Rattle.std.specs.Prelude.{if◌then◌else◌}
use Rattle.bits.specs.Word.{field, bit_at}
use Rattle.bits.proofs.Tests.{and_left, and_right, everywhere, equal_but}
use Rattle.isa.specs.Groups.{kinds}
use Rattle.isa.specs.InstructionSet.{Field, D, A, B, I, Mark, must, of, reserved, Form, zext, sext, jump, Row, rows, illegal, fits, first_fit, row_of, kind_row, entry, read, immediate}
use Rattle.isa.specs.Inner.{kind_of, kind_in}
use Rattle.isa.proofs.Pictures.{Agree, fits_same}

abbrev pub hit : Row → ℕ → Bool
hit r w = eqb (w / 2 ^ 26) r.opcode && fits r.bits w

or_case : (a b : Bool) → T (a || b) → T a ⊎ T b
or_case true b t = inl tt
or_case false b t = inr t

-- a fact of every row, and of the illegal one, is a fact of the first that fits
abbrev pub every_row : (Row → Bool) → List Row → Bool
every_row f [] = f illegal
every_row f (r ∷ rs) = f r && every_row f rs

pub first_has : (f : Row → Bool) (rs : List Row) (w : ℕ) → T (every_row f rs) → T (f (first_fit rs w))
unfolding first_fit
first_has f [] w t = t
first_has f (r ∷ rs) w t = go (hit r w) (first_has f rs w (and_right (f r) (every_row f rs) t))
  where
    go : (b : Bool) → T (f (first_fit rs w)) → T (f (if b then r else first_fit rs w))
    go true u = and_left (f r) (every_row f rs) t
    go false u = u

-- ---- the first row that fits depends on the opcode and on the bits that its rows test

-- the places that a picture tests are good ones
abbrev tests : (ℕ → Bool) → List Mark → Bool
tests good [] = true
tests good (must v ∷ p) = good (length p) && tests good p
tests good (of f ∷ p) = tests good p
tests good (reserved ∷ p) = tests good p

abbrev pub opcode_tests : ℕ → (ℕ → Bool) → List Row → Bool
opcode_tests o good [] = true
opcode_tests o good (r ∷ rs) = (not (eqb o r.opcode) || tests good r.bits) && opcode_tests o good rs

module _ (good : ℕ → Bool) (w x : ℕ) (same : (j : ℕ) → T (good j) → bit_at j w ≡ bit_at j x) where
  tested : (p : List Mark) → T (tests good p) → fits p w ≡ fits p x
  unfolding fits
  tested [] t = refl
  tested (must v ∷ p) t =
      rw (same (length p) (and_left (good (length p)) (tests good p) t), tested p (and_right (good (length p)) (tests good p) t))
  tested (of f ∷ p) t = tested p t
  tested (reserved ∷ p) t = tested p t

  pub first_same : w / 2 ^ 26 ≡ x / 2 ^ 26 → (rs : List Row) → T (opcode_tests (w / 2 ^ 26) good rs) → first_fit rs w ≡ first_fit rs x
  unfolding first_fit
  first_same e [] t = refl
  first_same e (r ∷ rs) t =
      let u = and_left (not (eqb (w / 2 ^ 26) r.opcode) || tests good r.bits) (opcode_tests (w / 2 ^ 26) good rs) t in
      rw (
        hit_same (eqb (w / 2 ^ 26) r.opcode) refl u,
        first_same e rs (and_right (not (eqb (w / 2 ^ 26) r.opcode) || tests good r.bits) (opcode_tests (w / 2 ^ 26) good rs) t),
      )
    where
      hit_same : (b : Bool) → eqb (w / 2 ^ 26) r.opcode ≡ b → T (not b || tests good r.bits) → hit r w ≡ hit r x
      hit_same true q u = rw (← e, q) (tested r.bits u)
      hit_same false q u = rw (← e, q)

-- bit i of n's k low bits, and of n without its low ones
bit_low : (n i k : ℕ) → i < k → bit_at i (n % 2 ^ k) ≡ bit_at i n
bit_low n i k h =
    let e : k - i + i ≡ k = omega arith in
    let f : k - i - 1 + 1 ≡ k - i = omega arith in
    ap (λ m. m % 2) (ap (λ m. n % 2 ^ m / 2 ^ i) (sym e) ∙ pow.field n (k - i) i)
    ∙ ap (λ m. n / 2 ^ i % 2 ^ m % 2) (sym f)
    ∙ mod-mod-pow (n / 2 ^ i) (k - i - 1) 1

bit_above : (n i k : ℕ) → k ≤ i → bit_at i n ≡ bit_at (i - k) (n / 2 ^ k)
bit_above n i k h =
    let e : k + (i - k) ≡ i = omega arith in
    ap (λ m. n / 2 ^ m % 2) (sym e) ∙ ap (λ m. m % 2) (sym (shr-shr n k (i - k)))

-- the word with opcode o and the k bits of w from bit l on
module _ (w o l k : ℕ) (fit : l + k ≤ 26) where
  abbrev excerpt : ℕ
  excerpt = o * 2 ^ 26 + field w l k * 2 ^ l

  excerpt_opcode : excerpt / 2 ^ 26 ≡ o
  excerpt_opcode =
      let a : field w l k * 2 ^ l < 2 ^ (k + l) = shl_lt k l (mod-lt (w / 2 ^ l) (pow_pos k)) in
      let c : k + l ≤ 26 = omega arith in
      let b : 2 ^ (k + l) ≤ 2 ^ 26 = pow_mono c in
      high o 26 (omega arith)

  excerpt_low : excerpt / 2 ^ l % 2 ^ k ≡ field w l k
  excerpt_low =
      let e : 26 ≡ (26 - l - k) + k + l = omega arith in
      let f : o * 2 ^ 26 ≡ o * 2 ^ (26 - l - k) * 2 ^ k * 2 ^ l =
      ap (λ n. o * 2 ^ n) e ∙ ap (λ n. o * n) (pow-add 2 (26 - l - k + k) l ∙ ap (λ n. n * 2 ^ l) (pow-add 2 (26 - l - k) k))
      ∙ sym (ap (λ n. n * 2 ^ l) (mul_assoc o (2 ^ (26 - l - k)) (2 ^ k)) ∙ mul_assoc o (2 ^ (26 - l - k) * 2 ^ k) (2 ^ l)) in
      let g : excerpt ≡ (o * 2 ^ (26 - l - k) * 2 ^ k + field w l k) * 2 ^ l =
      ap (λ n. n + field w l k * 2 ^ l) f ∙ sym (native.Mathlib.Nat.add-mul (o * 2 ^ (26 - l - k) * 2 ^ k) (field w l k) (2 ^ l)) in
      ap (λ n. n / 2 ^ l % 2 ^ k) g
      ∙ ap (λ n. n % 2 ^ k) (pow.shl-shr (o * 2 ^ (26 - l - k) * 2 ^ k + field w l k) l)
      ∙ low (o * 2 ^ (26 - l - k)) k (mod-lt (w / 2 ^ l) (pow_pos k))

  excerpt_bit : (j : ℕ) → T (leb l j && ltb j (l + k)) → bit_at j w ≡ bit_at j excerpt
  excerpt_bit j t =
      let a : l ≤ j = leb→le l j (and_left (leb l j) (ltb j (l + k)) t) in
      let b : j < l + k = ltb→lt j (l + k) (and_right (leb l j) (ltb j (l + k)) t) in
      let c : j - l < k = omega arith in
      bit_above w j l a ∙ sym (bit_low (w / 2 ^ l) (j - l) k c)
      ∙ ap (λ n. bit_at (j - l) n) (sym excerpt_low)
      ∙ bit_low (excerpt / 2 ^ l) (j - l) k c ∙ sym (bit_above excerpt j l a)

  -- where the rows of an opcode test only those bits, they decide the kind
  pub kind_by_bits : w / 2 ^ 26 ≡ o → T (opcode_tests o (λ j. leb l j && ltb j (l + k)) rows) → kind_in o l (field w l k) ≡ kind_of w
  unfolding kind_in kind_of
  kind_by_bits e t =
      sym
      (ap (λ (r : Row). r.kind)
      (first_same (λ j. leb l j && ltb j (l + k)) w excerpt excerpt_bit (e ∙ sym excerpt_opcode) rows (rw e t)))

-- where they test none, the opcode alone does
pub kind_by_opcode : (w o : ℕ) → w / 2 ^ 26 ≡ o → T (opcode_tests o (λ j. false) rows) → kind_in o 0 0 ≡ kind_of w
unfolding kind_in kind_of
kind_by_opcode w o e t =
    let x : (o * 2 ^ 26 + 0 * 2 ^ 0) / 2 ^ 26 ≡ o = high o 26 (omega arith) in
    sym (ap (λ (r : Row). r.kind) (first_same (λ j. false) w (o * 2 ^ 26 + 0 * 2 ^ 0) (λ j t. absurd t) (e ∙ sym x) rows (rw e t)))

-- ---- the row that is found

-- q has the bit at place j, or has another number than v there
abbrev kept : ℕ → List Mark → Bool
kept j [] = false
kept j (must v ∷ q) = eqb j (length q) || kept j q
kept j (of f ∷ q) = eqb j (length q) || kept j q
kept j (reserved ∷ q) = kept j q

abbrev differs : ℕ → ℕ → List Mark → Bool
differs j v [] = false
differs j v (must u ∷ q) = (eqb j (length q) && not (eqb u v)) || differs j v q
differs j v (of f ∷ q) = differs j v q
differs j v (reserved ∷ q) = differs j v q

-- q keeps each bit that p tests; some bit that both test must be another in each
abbrev covers : List Mark → List Mark → Bool
covers [] q = true
covers (must v ∷ p) q = kept (length p) q && covers p q
covers (of f ∷ p) q = covers p q
covers (reserved ∷ p) q = covers p q

abbrev clash : List Mark → List Mark → Bool
clash [] q = false
clash (must v ∷ p) q = differs (length p) v q || clash p q
clash (of f ∷ p) q = clash p q
clash (reserved ∷ p) q = clash p q

module _ (x w : ℕ) where
  kept_same : (j : ℕ) (q : List Mark) → T (kept j q) → Agree q x w → bit_at j x ≡ bit_at j w
  kept_same j [] t a = absurd t
  kept_same j (must v ∷ q) t a =
      ⊎_elim (λ e. rw (eqb→eq j (length q) e) a.0) (λ u. kept_same j q u a.1) (or_case (eqb j (length q)) (kept j q) t)
  kept_same j (of f ∷ q) t a =
      ⊎_elim (λ e. rw (eqb→eq j (length q) e) a.0) (λ u. kept_same j q u a.1) (or_case (eqb j (length q)) (kept j q) t)
  kept_same j (reserved ∷ q) t a = kept_same j q t a

  covers_same : (p q : List Mark) → T (covers p q) → Agree q x w → fits p x ≡ fits p w
  unfolding fits
  covers_same [] q t a = refl
  covers_same (must v ∷ p) q t a =
      rw (
        kept_same (length p) q (and_left (kept (length p) q) (covers p q) t) a,
        covers_same p q (and_right (kept (length p) q) (covers p q) t) a,
      )
  covers_same (of f ∷ p) q t a = covers_same p q t a
  covers_same (reserved ∷ p) q t a = covers_same p q t a

not_equal : (u v : ℕ) → T (not (eqb u v)) → eqb u v ≡ false
not_equal u v t = ne_eqb u v (λ e. T_not (eqb u v) t (subst (λ (z : ℕ). T (eqb u z)) e (eqb_refl u)))

module _ (w : ℕ) where
  differs_not : (j v : ℕ) (q : List Mark) → T (differs j v q) → T (fits q w) → eqb (bit_at j w) v ≡ false
  unfolding fits
  differs_not j v [] t f = absurd t
  differs_not j v (must u ∷ q) t f =
      ⊎_elim
      (λ d.
      let a : j ≡ length q = eqb→eq j (length q) (and_left (eqb j (length q)) (not (eqb u v)) d) in
      let e : bit_at (length q) w ≡ u = eqb→eq (bit_at (length q) w) u (and_left (eqb (bit_at (length q) w) u) (fits q w) f) in
      rw (a, e) (not_equal u v (and_right (eqb j (length q)) (not (eqb u v)) d)))
      (λ d. differs_not j v q d (and_right (eqb (bit_at (length q) w) u) (fits q w) f))
      (or_case (eqb j (length q) && not (eqb u v)) (differs j v q) t)
  differs_not j v (of g ∷ q) t f = differs_not j v q t f
  differs_not j v (reserved ∷ q) t f = differs_not j v q t f

  clash_not : (p q : List Mark) → T (clash p q) → T (fits q w) → fits p w ≡ false
  unfolding fits
  clash_not [] q t f = absurd t
  clash_not (must v ∷ p) q t f =
      ⊎_elim
      (λ d. rw (differs_not (length p) v q d f))
      (λ d. rw (clash_not p q d f) (and-false (eqb (bit_at (length p) w) v)))
      (or_case (differs (length p) v q) (clash p q) t)
  clash_not (of g ∷ p) q t f = clash_not p q t f
  clash_not (reserved ∷ p) q t f = clash_not p q t f

-- where r is found, r₀ before it stays out
abbrev apart : Row → Row → Bool
apart r₀ r = not (eqb r₀.opcode r.opcode) || (clash r₀.bits r.bits || covers r₀.bits r.bits)

abbrev all_apart : List Row → Bool
all_apart [] = true
all_apart (r ∷ rs) = every_row (apart r) rs && all_apart rs

rows_apart : T (all_apart rows)
unfolding rows
rows_apart = tt

stays_out : (r₀ r : Row) (w x : ℕ) → T (apart r₀ r) → T (hit r w) → x / 2 ^ 26 ≡ w / 2 ^ 26 → Agree r.bits x w → hit r₀ w ≡ false → hit r₀ x ≡ false
stays_out r₀ r w x t h e a n =
    let o : w / 2 ^ 26 ≡ r.opcode = eqb→eq (w / 2 ^ 26) r.opcode (and_left (eqb (w / 2 ^ 26) r.opcode) (fits r.bits w) h) in
    let f : T (fits r.bits w) = and_right (eqb (w / 2 ^ 26) r.opcode) (fits r.bits w) h in
    let g : T (fits r.bits x) = subst (λ (b : Bool). T b) (sym (fits_same r.bits x w a)) f in
    ⊎_elim
    (λ d. rw (e, o, ne_eqb r.opcode r₀.opcode (λ c. T_not (eqb r₀.opcode r.opcode) d (subst (λ (z : ℕ). T (eqb z r.opcode)) c (eqb_refl r.opcode)))))
    (λ d.
    ⊎_elim
    (λ c. rw (clash_not x r₀.bits r.bits c g) (and-false (eqb (x / 2 ^ 26) r₀.opcode)))
    (λ c. rw (e, covers_same x w r₀.bits r.bits c a) n)
    (or_case (clash r₀.bits r.bits) (covers r₀.bits r.bits) d))
    (or_case (not (eqb r₀.opcode r.opcode)) (clash r₀.bits r.bits || covers r₀.bits r.bits) t)

-- nothing fits; or the row found fits, and is found for every word that agrees with this one on it
abbrev pub Found : List Row → ℕ → Row → Type 0
Found rs w r = (r ≡ illegal) ⊎ (T (hit r w) × ((x : ℕ) → x / 2 ^ 26 ≡ w / 2 ^ 26 → Agree r.bits x w → first_fit rs x ≡ r))

found : (rs : List Row) (w : ℕ) → T (all_apart rs) → Found rs w (first_fit rs w)
unfolding first_fit
found [] w t = inl refl
found (r ∷ rs) w t = go (hit r w) refl (found rs w (and_right (every_row (apart r) rs) (all_apart rs) t))
  where
    go : (b : Bool) → hit r w ≡ b → Found rs w (first_fit rs w) → Found (r ∷ rs) w (if b then r else first_fit rs w)
    go true e f = inr (subst (λ (b : Bool). T b) (sym e) tt, λ x q a. rw (q, fits_same r.bits x w a, e))
    go false e f =
        ⊎_elim (λ i. inl i)
        (λ y.
        inr (
          y.0,
          λ x q a. rw (stays_out r (first_fit rs w) w x (first_has (apart r) rs w (and_left (every_row (apart r) rs) (all_apart rs) t)) y.0 q a e) (y.1 x q a),
        ))
        f

pub found_row : (w : ℕ) → Found rows w (first_fit rows w)
found_row w = found rows w rows_apart

-- ---- a row is its kind's, but for those of kind 1, which have no field

pub kind_range : (w : ℕ) → (1 ≤ kind_of w) × (kind_of w < kinds)
unfolding rows kind_of
kind_range w =
    let k = (first_fit rows w).kind in
    let t : T (leb 1 k && ltb k kinds) = first_has (λ r. leb 1 r.kind && ltb r.kind kinds) rows w tt in
    (leb→le 1 k (and_left (leb 1 k) (ltb k kinds) t), ltb→lt k kinds (and_right (leb 1 k) (ltb k kinds) t))

abbrev distinct : List Row → Bool
distinct [] = true
distinct (r ∷ rs) = every_row (λ q. eqb q.kind 1 || not (eqb q.kind r.kind)) rs && distinct rs

own : (rs : List Row) (w : ℕ) → T (distinct rs) → ((first_fit rs w).kind ≡ 1) ⊎ (row_of rs (first_fit rs w).kind ≡ first_fit rs w)
unfolding first_fit row_of
own [] w t = inl refl
own (r ∷ rs) w t = go (hit r w) (own rs w (and_right (every_row other rs) (distinct rs) t))
  where
    other : Row → Bool
    other q = eqb q.kind 1 || not (eqb q.kind r.kind)

    go : (b : Bool) → ((first_fit rs w).kind ≡ 1) ⊎ (row_of rs (first_fit rs w).kind ≡ first_fit rs w) →
        ((if b then r else first_fit rs w).kind ≡ 1) ⊎ (row_of (r ∷ rs) (if b then r else first_fit rs w).kind ≡ (if b then r else first_fit rs w))
    go true f = inr (rw (eq-eqb r.kind r.kind refl))
    go false f = ⊎_elim (λ e. inl e) (λ e. later e) f
      where
        later : row_of rs (first_fit rs w).kind ≡ first_fit rs w →
            ((first_fit rs w).kind ≡ 1) ⊎ (row_of (r ∷ rs) (first_fit rs w).kind ≡ first_fit rs w)
        later e =
            ⊎_elim (λ u. inl (eqb→eq (first_fit rs w).kind 1 u)) (λ u. inr (rw (not_equal (first_fit rs w).kind r.kind u) e))
            (or_case (eqb (first_fit rs w).kind 1) (not (eqb (first_fit rs w).kind r.kind))
            (first_has other rs w (and_left (every_row other rs) (distinct rs) t)))

-- a picture without fields
abbrev blank : List Mark → Bool
blank [] = true
blank (must v ∷ p) = blank p
blank (of f ∷ p) = false
blank (reserved ∷ p) = blank p

blank_read : (f : Field) (p : List Mark) (w : ℕ) → T (blank p) → read f p w ≡ 0
unfolding read
blank_read f [] w t = refl
blank_read f (must v ∷ p) w t = blank_read f p w t
blank_read f (of g ∷ p) w t = absurd t
blank_read f (reserved ∷ p) w t = blank_read f p w t

abbrev is_zext : Form → Bool
is_zext zext = true
is_zext sext = false
is_zext jump = false

zext_zero : (f : Form) → T (is_zext f) → immediate f 0 ≡ 0
unfolding immediate
zext_zero zext t = refl
zext_zero sext t = absurd t
zext_zero jump t = absurd t

-- an illegal word's entry
pub illegal_entry : (w : ℕ) → kind_of w ≡ 1 → entry (first_fit rows w) w ≡ 2 ^ 56
unfolding rows kind_of entry
illegal_entry w e =
    let r = first_fit rows w in
    let t : T (not (eqb r.kind 1) || (blank r.bits && is_zext r.form)) =
    first_has (λ r. not (eqb r.kind 1) || (blank r.bits && is_zext r.form)) rows w tt in
    let u : T (blank r.bits && is_zext r.form) = rw (eq-eqb r.kind 1 e) at t in
    let b : T (blank r.bits) = and_left (blank r.bits) (is_zext r.form) u in
    rw (
      blank_read D r.bits w b,
      blank_read A r.bits w b,
      blank_read B r.bits w b,
      blank_read I r.bits w b,
      zext_zero r.form (and_right (blank r.bits) (is_zext r.form) u),
      e,
    )

rows_distinct : T (distinct rows)
unfolding rows
rows_distinct = tt

other_row : (k : ℕ) → (k ≡ 1 → ⊥) → kind_row k ≡ row_of rows k
unfolding kind_row row_of
other_row k n = rw (ne_eqb k 1 n)

pub own_row : (w : ℕ) → (kind_of w ≡ 1 → ⊥) → kind_row (kind_of w) ≡ first_fit rows w
unfolding kind_of
own_row w n = other_row (first_fit rows w).kind n ∙ ⊎_elim (λ e. absurd (n e)) (λ e. e) (own rows w rows_distinct)

-- ---- arms of the decoder's match

-- what the decoder's match promises of its answer n for the word w
abbrev pub Answer : ℕ → ℕ → Type 0
Answer w n = (n ≡ kind_of w) × (n < kinds)

answer : (w n : ℕ) → n ≡ kind_of w → Answer w n
answer w n e = (e, subst (λ (m : ℕ). m < kinds) (sym e) (kind_range w).1)

-- no row of the opcode tests a bit, and n is its kind
abbrev pub settles : ℕ → ℕ → Bool
settles o n = opcode_tests o (λ j. false) rows && eqb n (kind_in o 0 0)

pub by_opcode : (w o n : ℕ) → w / 2 ^ 26 ≡ o → T (settles o n) → Answer w n
by_opcode w o n e t =
    answer w n
    (eqb→eq n (kind_in o 0 0) (and_right (opcode_tests o (λ j. false) rows) (eqb n (kind_in o 0 0)) t)
    ∙ kind_by_opcode w o e (and_left (opcode_tests o (λ j. false) rows) (eqb n (kind_in o 0 0)) t))

-- the rows of the opcode test only the k bits from l on
pub by_bits : (w o l k n : ℕ) → w / 2 ^ 26 ≡ o → T (leb (l + k) 26 && opcode_tests o (λ j. leb l j && ltb j (l + k)) rows) →
    n ≡ kind_in o l (field w l k) → Answer w n
by_bits w o l k n e t a =
    let f = leb (l + k) 26 in
    let g = opcode_tests o (λ j. leb l j && ltb j (l + k)) rows in
    answer w n (a ∙ kind_by_bits w o l k (leb→le (l + k) 26 (and_left f g t)) e (and_right f g t))

-- and f has their kinds
pub by_field : (w o l k : ℕ) (f : ℕ → ℕ) (n : ℕ) → w / 2 ^ 26 ≡ o → T (leb (l + k) 26 && opcode_tests o (λ j. leb l j && ltb j (l + k)) rows)
    → T (everywhere (λ x. false || eqb (f x) (kind_in o l x)) 0 (2 ^ k)) → n ≡ f (field w l k) → Answer w n
by_field w o l k f n e t u a =
    let h : field w l k < 2 ^ k = mod-lt (w / 2 ^ l) (pow_pos k) in
    by_bits w o l k n e t (a ∙ equal_but f (kind_in o l) [] 0 (2 ^ k) u (field w l k) (omega arith) (omega arith) tt)
