-- The places of a picture's fields, and the computed test that the code's shapes are the rows'. Assumes nothing.
use mathlib.Core.Path.{◌≡◌, refl, ◌∙◌, subst, sym, ap, ap₂}
use mathlib.Core.Bool.{Bool, true, false, ◌&&◌}
use mathlib.Core.List.{List, [], ◌∷◌}
use Prim.Native.Nat.{ℕ, zero, suc, ◌+◌, ◌*◌, ◌/◌, ◌%◌, ◌^◌, ◌<◌}
use native.Mathlib.Nat.{mod-one, mod-mod, add-mul, mul_assoc, div-one, div-eq_of_lt, add-zero, zero-add, add-suc, suc-add, le_of_suc-le-suc, not-suc-le-zero}
use native.Mathlib.Omega.{arith}
use lib.Pow.{pow_pos, pow-add, mod-pow-add, shr-shr}
use lib.Dec.{T, eqb, ltb, eqb→eq, ltb→lt}
use lib.ListN.{length, get_or}
use Rattle.std.specs.Prelude.{if◌then◌else◌}
use Rattle.bits.specs.Word.{field, bit_at}
use Rattle.bits.proofs.Tests.{and_left, and_right, within}
use Rattle.isa.specs.Groups.{kinds}
use Rattle.isa.specs.InstructionSet as set
use Rattle.isa.specs.InstructionSet.{Field, D, A, B, I, Mark, must, of, reserved, Row, rows, row_of, kind_row, same_field, width, read, entry, fill, value, immediate_bits, word_for}
use Rattle.isa.specs.Entry.{fields_of}
use Rattle.isa.specs.Inner.{packed, fields_in, bits_of, gathered, scattered, form_of, shape_in}
use Rattle.isa.specs.declared.kinds.Place.{Place}
use Rattle.isa.specs.declared.kinds.Place.TheVariants.{None, Low5, Low16, Low26, Split}
use Rattle.isa.specs.declared.kinds.Shape.{Shape}
use Rattle.isa.proofs.Pictures.{binary, fill_lt}

-- the places of the bits of a field, from the highest down
abbrev places : Field → List Mark → List ℕ
places f [] = []
places f (must v ∷ p) = places f p
places f (of g ∷ p) = if same_field f g then length p ∷ places f p else places f p
places f (reserved ∷ p) = places f p

-- the number that a word has at places, and a number's bits put there
abbrev gather : List ℕ → ℕ → ℕ
gather [] w = 0
gather (q ∷ qs) w = bit_at q w * 2 ^ length qs + gather qs w

abbrev scatter : List ℕ → ℕ → ℕ
scatter [] n = 0
scatter (q ∷ qs) n = bit_at (length qs) n * 2 ^ q + scatter qs n

width_places : (f : Field) (p : List Mark) → width f p ≡ length (places f p)
unfolding width
width_places f [] = refl
width_places f (must v ∷ p) = width_places f p
width_places f (of g ∷ p) = go (same_field f g) (width_places f p)
  where
    go : (b : Bool) → width f p ≡ length (places f p) →
        (if b then suc (width f p) else width f p) ≡ length (if b then length p ∷ places f p else places f p)
    go true e = ap suc e
    go false e = e
width_places f (reserved ∷ p) = width_places f p

read_places : (f : Field) (p : List Mark) (w : ℕ) → read f p w ≡ gather (places f p) w
unfolding read
read_places f [] w = refl
read_places f (must v ∷ p) w = read_places f p w
read_places f (of g ∷ p) w = go (same_field f g) (read_places f p w)
  where
    go : (b : Bool) → read f p w ≡ gather (places f p) w →
        (if b then bit_at (length p) w * 2 ^ width f p + read f p w else read f p w)
        ≡ gather (if b then length p ∷ places f p else places f p) w
    go true e = rw (width_places f p, e)
    go false e = e
read_places f (reserved ∷ p) w = read_places f p w

-- the bits that must be 1
abbrev ones : List Mark → ℕ
ones [] = 0
ones (must b ∷ p) = b * 2 ^ length p + ones p
ones (of f ∷ p) = ones p
ones (reserved ∷ p) = ones p

abbrev scattered_all : List Mark → (Field → ℕ) → ℕ
scattered_all p v =
    scatter (places D p) (v D) + scatter (places A p) (v A) + scatter (places B p) (v B) + scatter (places I p) (v I)

fill_places : (p : List Mark) (v : Field → ℕ) → fill p v ≡ ones p + scattered_all p v
unfolding fill
fill_places [] v = refl
fill_places (must b ∷ p) v = let h : fill p v ≡ ones p + scattered_all p v = fill_places p v in omega arith
fill_places (of D ∷ p) v = let h : fill p v ≡ ones p + scattered_all p v = fill_places p v in rw (width_places D p) (omega arith)
fill_places (of A ∷ p) v = let h : fill p v ≡ ones p + scattered_all p v = fill_places p v in rw (width_places A p) (omega arith)
fill_places (of B ∷ p) v = let h : fill p v ≡ ones p + scattered_all p v = fill_places p v in rw (width_places B p) (omega arith)
fill_places (of I ∷ p) v = let h : fill p v ≡ ones p + scattered_all p v = fill_places p v in rw (width_places I p) (omega arith)
fill_places (reserved ∷ p) v = fill_places p v

-- the k places from l up, above others
abbrev span : ℕ → ℕ → List ℕ → List ℕ
span l zero qs = qs
span l (suc k) qs = (l + k) ∷ span l k qs

span_length : (l k : ℕ) (qs : List ℕ) → length (span l k qs) ≡ k + length qs
span_length l zero qs = omega arith
span_length l (suc k) qs = let h : length (span l k qs) ≡ k + length qs = span_length l k qs in omega arith

-- one bit more
field_suc : (w l k : ℕ) → field w l (suc k) ≡ bit_at (l + k) w * 2 ^ k + field w l k
field_suc w l k =
    let e : suc k ≡ 1 + k = omega arith in
    ap (λ n. w / 2 ^ l % 2 ^ n) e ∙ mod-pow-add (w / 2 ^ l) 1 k ∙ ap (λ n. n % 2 * 2 ^ k + field w l k) (shr-shr w l k)

raised : (b k l f : ℕ) → b * 2 ^ (k + l) + f * 2 ^ l ≡ (b * 2 ^ k + f) * 2 ^ l
raised b k l f =
    ap (λ n. n + f * 2 ^ l) (ap (λ n. b * n) (pow-add 2 k l) ∙ sym (mul_assoc b (2 ^ k) (2 ^ l))) ∙ sym (add-mul (b * 2 ^ k) f (2 ^ l))

gather_span : (l k : ℕ) (qs : List ℕ) (w : ℕ) → gather (span l k qs) w ≡ field w l k * 2 ^ length qs + gather qs w
gather_span l zero qs w = rw (mod-one (w / 2 ^ l)) (omega arith)
gather_span l (suc k) qs w =
    let h : gather (span l k qs) w ≡ field w l k * 2 ^ length qs + gather qs w = gather_span l k qs w in
    let r : bit_at (l + k) w * 2 ^ (k + length qs) + field w l k * 2 ^ length qs ≡ (bit_at (l + k) w * 2 ^ k + field w l k) * 2 ^ length qs =
    raised (bit_at (l + k) w) k (length qs) (field w l k) in
    rw (span_length l k qs, field_suc w l k) (omega arith)

scatter_span : (l k : ℕ) (qs : List ℕ) (n : ℕ) → scatter (span l k qs) n ≡ field n (length qs) k * 2 ^ l + scatter qs n
scatter_span l zero qs n = rw (mod-one (n / 2 ^ length qs)) (omega arith)
scatter_span l (suc k) qs n =
    let h : scatter (span l k qs) n ≡ field n (length qs) k * 2 ^ l + scatter qs n = scatter_span l k qs n in
    let c : k + length qs ≡ length qs + k = omega arith in
    let d : l + k ≡ k + l = omega arith in
    let r : bit_at (length qs + k) n * 2 ^ (k + l) + field n (length qs) k * 2 ^ l ≡ (bit_at (length qs + k) n * 2 ^ k + field n (length qs) k) * 2 ^ l =
    raised (bit_at (length qs + k) n) k l (field n (length qs) k) in
    rw (span_length l k qs, c, d, field_suc n (length qs) k) (omega arith)

scatter_zero : (qs : List ℕ) → scatter qs 0 ≡ 0
scatter_zero [] = refl
scatter_zero (q ∷ qs) = let h : scatter qs 0 ≡ 0 = scatter_zero qs in rw (zero_bit (length qs)) (omega arith)
  where
    zero_bit : (i : ℕ) → bit_at i 0 ≡ 0
    zero_bit i = ap (λ n. n % 2) (div-eq_of_lt (pow_pos i))

-- ---- where the fields stand

abbrev same_list : List ℕ → List ℕ → Bool
same_list [] [] = true
same_list [] (y ∷ ys) = false
same_list (x ∷ xs) [] = false
same_list (x ∷ xs) (y ∷ ys) = eqb x y && same_list xs ys

same_list→eq : (xs ys : List ℕ) → T (same_list xs ys) → xs ≡ ys
same_list→eq [] [] t = refl
same_list→eq [] (y ∷ ys) t = absurd t
same_list→eq (x ∷ xs) [] t = absurd t
same_list→eq (x ∷ xs) (y ∷ ys) t =
    ap₂ (λ z zs. z ∷ zs) (eqb→eq x y (and_left (eqb x y) (same_list xs ys) t)) (same_list→eq xs ys (and_right (eqb x y) (same_list xs ys) t))

abbrev same_form : set.Form → set.Form → Bool
same_form set.zext set.zext = true
same_form set.zext set.sext = false
same_form set.zext set.jump = false
same_form set.sext set.zext = false
same_form set.sext set.sext = true
same_form set.sext set.jump = false
same_form set.jump set.zext = false
same_form set.jump set.sext = false
same_form set.jump set.jump = true

same_form→eq : (f g : set.Form) → T (same_form f g) → f ≡ g
same_form→eq set.zext set.zext t = refl
same_form→eq set.zext set.sext t = absurd t
same_form→eq set.zext set.jump t = absurd t
same_form→eq set.sext set.zext t = absurd t
same_form→eq set.sext set.sext t = refl
same_form→eq set.sext set.jump t = absurd t
same_form→eq set.jump set.zext t = absurd t
same_form→eq set.jump set.sext t = absurd t
same_form→eq set.jump set.jump t = refl

-- a register's places from l up, if it is there
abbrev register_places : Bool → ℕ → List ℕ
register_places has l = if has then span l 5 [] else []

abbrev immediate_places : Place → List ℕ
immediate_places None = []
immediate_places Low5 = span 0 5 []
immediate_places Low16 = span 0 16 []
immediate_places Low26 = span 0 26 []
immediate_places Split = span 21 5 (span 0 11 [])

gather_register : (has : Bool) (l w : ℕ) → gather (register_places has l) w ≡ (if has then field w l 5 else 0)
gather_register true l w = gather_span l 5 [] w ∙ omega arith
gather_register false l w = refl

scatter_register : (has : Bool) (l n : ℕ) → n % 2 ^ 5 ≡ n → scatter (register_places has l) n ≡ (if has then n * 2 ^ l else 0)
scatter_register true l n e = scatter_span l 5 [] n ∙ rw (div-one n, e) (omega arith)
scatter_register false l n e = refl

gather_immediate : (p : Place) (w : ℕ) → gather (immediate_places p) w ≡ gathered p w
gather_immediate None w = refl
gather_immediate Low5 w = gather_span 0 5 [] w ∙ rw (div-one w) (omega arith)
gather_immediate Low16 w = gather_span 0 16 [] w ∙ rw (div-one w) (omega arith)
gather_immediate Low26 w = gather_span 0 26 [] w ∙ rw (div-one w) (omega arith)
gather_immediate Split w =
    gather_span 21 5 (span 0 11 []) w ∙ ap (λ n. field w 21 5 * 2 ^ 11 + n) (gather_span 0 11 [] w ∙ rw (div-one w) (omega arith))

scatter_immediate : (p : Place) (n : ℕ) → scatter (immediate_places p) n ≡ scattered p n
scatter_immediate None n = refl
scatter_immediate Low5 n = scatter_span 0 5 [] n ∙ rw (div-one n) (omega arith)
scatter_immediate Low16 n = scatter_span 0 16 [] n ∙ rw (div-one n) (omega arith)
scatter_immediate Low26 n = scatter_span 0 26 [] n ∙ rw (div-one n) (omega arith)
scatter_immediate Split n =
    scatter_span 21 5 (span 0 11 []) n ∙ ap (λ m. field n 11 5 * 2 ^ 21 + m) (scatter_span 0 11 [] n ∙ rw (div-one n) (omega arith))

-- ---- the test, and what it says

-- an opcode of six bits, and a picture of 26
abbrev whole : Row → Bool
whole r = ltb r.opcode 64 && (eqb (length r.bits) 26 && binary r.bits)

whole_lt : (r : Row) (e : ℕ) → T (whole r) → word_for r e < 2 ^ 32
unfolding word_for
whole_lt r e t =
    let o = ltb r.opcode 64 in
    let l = eqb (length r.bits) 26 in
    let b = binary r.bits in
    let u : T (l && b) = and_right o (l && b) t in
    let h : r.opcode < 64 = ltb→lt r.opcode 64 (and_left o (l && b) t) in
    let g : fill r.bits (value r.form e) < 2 ^ 26 =
    subst (λ (n : ℕ). fill r.bits (value r.form e) < 2 ^ n) (eqb→eq (length r.bits) 26 (and_left l b u)) (fill_lt r.bits (value r.form e) (and_right l b u)) in
    omega arith

abbrev right : ℕ → Shape → Bool
right k t =
    same_list (places D (kind_row k).bits) (register_places t.d 21)
    && (same_list (places A (kind_row k).bits) (register_places t.a 16)
    && (same_list (places B (kind_row k).bits) (register_places t.b 11)
    && (same_list (places I (kind_row k).bits) (immediate_places t.place)
    && (same_form (kind_row k).form (form_of t.form) && whole (kind_row k)))))

-- what stands where, of a row and a shape for which it passes
record Placed (r : Row) (t : Shape) : Type 0 where
  d : places D r.bits ≡ register_places t.d 21
  a : places A r.bits ≡ register_places t.a 16
  b : places B r.bits ≡ register_places t.b 11
  i : places I r.bits ≡ immediate_places t.place
  form : r.form ≡ form_of t.form
  small : T (whole r)

entry_placed : (r : Row) (t : Shape) (w : ℕ) → Placed r t → entry r w ≡ packed r.kind (fields_in t w)
unfolding entry
entry_placed r t w h =
    rw (
      read_places D r.bits w,
      h.d,
      gather_register t.d 21 w,
      read_places A r.bits w,
      h.a,
      gather_register t.a 16 w,
      read_places B r.bits w,
      h.b,
      gather_register t.b 11 w,
      read_places I r.bits w,
      h.i,
      gather_immediate t.place w,
      h.form,
    )

no_value : (f : set.Form) (g : Field) → value f 0 g ≡ 0
unfolding value immediate_bits
no_value f D = refl
no_value f A = refl
no_value f B = refl
no_value set.zext I = refl
no_value set.sext I = refl
no_value set.jump I = refl

fill_none : (p : List Mark) (f : set.Form) → fill p (value f 0) ≡ ones p
fill_none p f =
    fill_places p (value f 0)
    ∙ rw (
      no_value f D,
      no_value f A,
      no_value f B,
      no_value f I,
      scatter_zero (places D p),
      scatter_zero (places A p),
      scatter_zero (places B p),
      scatter_zero (places I p),
    ) (omega arith)

scattered_placed : (r : Row) (t : Shape) (e : ℕ) → Placed r t → scattered_all r.bits (value r.form e) ≡ bits_of t (fields_of e)
unfolding value
scattered_placed r t e h =
    rw (
      h.d,
      scatter_register t.d 21 (field e 42 5) (mod-mod (e / 2 ^ 42) 32),
      h.a,
      scatter_register t.a 16 (field e 37 5) (mod-mod (e / 2 ^ 37) 32),
      h.b,
      scatter_register t.b 11 (field e 32 5) (mod-mod (e / 2 ^ 32) 32),
      h.form,
      div-one e,
      h.i,
      scatter_immediate t.place (immediate_bits (form_of t.form) (e % 2 ^ 32)),
    )

word_placed : (r : Row) (t : Shape) (e : ℕ) → Placed r t → word_for r e ≡ word_for r 0 + bits_of t (fields_of e)
unfolding word_for
word_placed r t e h =
    let a : fill r.bits (value r.form e) ≡ ones r.bits + bits_of t (fields_of e) =
    fill_places r.bits (value r.form e) ∙ ap (λ n. ones r.bits + n) (scattered_placed r t e h) in
    let b : fill r.bits (value r.form 0) ≡ ones r.bits = fill_none r.bits r.form in
    rw (a, b) (omega arith)

placed : (k : ℕ) (t : Shape) → T (right k t) → Placed (kind_row k) t
placed k t h =
    let r = kind_row k in
    let d = same_list (places D r.bits) (register_places t.d 21) in
    let a = same_list (places A r.bits) (register_places t.a 16) in
    let b = same_list (places B r.bits) (register_places t.b 11) in
    let i = same_list (places I r.bits) (immediate_places t.place) in
    let f = same_form r.form (form_of t.form) in
    let w = whole r in
    let h₁ : T (a && (b && (i && (f && w)))) = and_right d (a && (b && (i && (f && w)))) h in
    let h₂ : T (b && (i && (f && w))) = and_right a (b && (i && (f && w))) h₁ in
    let h₃ : T (i && (f && w)) = and_right b (i && (f && w)) h₂ in
    let h₄ : T (f && w) = and_right i (f && w) h₃ in
    record {
      d = same_list→eq (places D r.bits) (register_places t.d 21) (and_left d (a && (b && (i && (f && w)))) h);
      a = same_list→eq (places A r.bits) (register_places t.a 16) (and_left a (b && (i && (f && w))) h₁);
      b = same_list→eq (places B r.bits) (register_places t.b 11) (and_left b (i && (f && w)) h₂);
      i = same_list→eq (places I r.bits) (immediate_places t.place) (and_left i (f && w) h₃);
      form = same_form→eq r.form (form_of t.form) (and_left f w h₄);
      small = and_right f w h₄;
    }

-- a register's number in its place
pub present_at : (has : Bool) (x m : ℕ) → (if has then x else 0) * m ≡ (if has then x * m else 0)
present_at true x m = refl
present_at false x m = omega arith

-- t says what a word of kind k is made of
pub record Describes (k : ℕ) (t : Shape) : Type 0 where
  pub fields : (w : ℕ) → entry (kind_row k) w ≡ packed (kind_row k).kind (fields_in t w)
  pub word : (e : ℕ) → word_for (kind_row k) e ≡ word_for (kind_row k) 0 + bits_of t (fields_of e)
  pub small : (e : ℕ) → word_for (kind_row k) e < 2 ^ 32

-- the shape that a row's picture has says it, for every kind
pub describes : (k : ℕ) → k < kinds → {t : Shape} → t ≡ shape_in (kind_row k) → Describes k t
unfolding rows row_of kind_row width
describes k h {t} e =
    let p : Placed (kind_row k) t = rw e (placed k (shape_in (kind_row k)) (within (λ k. right k (shape_in (kind_row k))) 0 kinds tt k (omega arith) h)) in
    record {
      fields = λ w. entry_placed (kind_row k) t w p;
      word = λ e. word_placed (kind_row k) t e p;
      small = λ e. whole_lt (kind_row k) e p.small;
    }

-- g at n numbers from i on
abbrev pub values_from : {A : Type 0} → (ℕ → A) → ℕ → ℕ → List A
values_from g i zero = []
values_from g i (suc n) = g i ∷ values_from g (suc i) n

heads : {A : Type 0} {x y : A} {xs ys : List A} → x ∷ xs ≡ y ∷ ys → x ≡ y
heads e = cc

tails : {A : Type 0} {x y : A} {xs ys : List A} → x ∷ xs ≡ y ∷ ys → xs ≡ ys
tails e = cc

table_from : {A : Type 0} (g : ℕ → A) (i : ℕ) (xs : List A) → xs ≡ values_from g i (length xs) → (k : ℕ) (d : A) → k < length xs → get_or xs k d ≡ g (i + k)
table_from g i [] e k d h = absurd (not-suc-le-zero h)
table_from g i (x ∷ xs) e zero d h = heads e ∙ ap g (sym (add-zero i))
table_from g i (x ∷ xs) e (suc k) d h = table_from g (suc i) xs (tails e) k d (le_of_suc-le-suc h) ∙ ap g (suc-add i k ∙ sym (add-suc i k))

-- a table that computes to g at each place
pub table_values : {A : Type 0} (g : ℕ → A) (xs : List A) → xs ≡ values_from g 0 (length xs) → (k : ℕ) (d : A) → k < length xs → get_or xs k d ≡ g k
table_values g xs e k d h = table_from g 0 xs e k d h ∙ ap g (zero-add k)
