-- Every word's entry has a word: the one with its reserved bits 0. Assumes nothing.
use mathlib.Core.Path.{◌≡◌, refl, ◌∙◌, subst, sym, ap}
use mathlib.Core.Bool.{Bool, ◌&&◌}
use mathlib.Core.Logic.{⊎_elim}
use Prim.Native.Nat.{ℕ, ◌+◌, ◌*◌, ◌/◌, ◌%◌, ◌^◌, ◌≤◌, ◌<◌}
use native.Mathlib.Nat.{mod-eq_of_lt}
use native.Mathlib.Omega.{arith}
use lib.Pow.{pow_mono, high}
use lib.Dec.{T, eqb, leb, ltb, eqb→eq, leb→le, ltb→lt}
use lib.ListN.{length}
use Rattle.bits.specs.Word.{field}
use Rattle.bits.proofs.Cases.{by_equality}
use Rattle.bits.proofs.Tests.{and_left, and_right}
use Rattle.isa.specs.InstructionSet.{Field, D, A, B, I, Row, rows, illegal, fits, first_fit, row_of, kind_row, width, read, immediate, immediate_bits, pack, entry, decode, value, fill, word_for, candidate}
use Rattle.isa.specs.Register.{Register}
use Rattle.isa.specs.Inner.{kind_of, packed, fields_in}
use Rattle.isa.specs.declared.kinds.Shape.{Shape}
use Rattle.isa.proofs.Immediates.{form_width, immediate_lt, immediate_back}
use Rattle.isa.proofs.Pictures.{Agree, Holds, read_lt, entry_same, fill_fits_lt, filled_agrees}
use Rattle.isa.proofs.Shapes.{Describes}
use Rattle.isa.proofs.Rows.{hit, found_row, every_row, first_has, illegal_entry, own_row}

-- ---- the row of a word's kind has the word's entry

illegal_row : kind_row 1 ≡ illegal
unfolding kind_row row_of
illegal_row = refl

no_fields : (w : ℕ) → entry illegal w ≡ 2 ^ 56
unfolding entry read immediate
no_fields w = refl

decode_illegal : (w : ℕ) → kind_of w ≡ 1 → decode w ≡ 2 ^ 56
unfolding decode
decode_illegal w e = illegal_entry w e

decode_legal : (w : ℕ) → (kind_of w ≡ 1 → ⊥) → entry (kind_row (kind_of w)) w ≡ decode w
unfolding decode
decode_legal w n = ap (λ (r : Row). entry r w) (own_row w n)

kind_legal : (w : ℕ) → (kind_of w ≡ 1 → ⊥) → (kind_row (kind_of w)).kind ≡ kind_of w
unfolding kind_of
kind_legal w n = ap (λ (r : Row). r.kind) (own_row w n)

pub own_entry : (w : ℕ) (t : Shape) → Describes (kind_of w) t → packed (kind_of w) (fields_in t w) ≡ decode w
own_entry w t d =
    by_equality (kind_of w) 1
    (λ e.
    let k : kind_row (kind_of w) ≡ illegal = ap kind_row e ∙ illegal_row in
    ap (λ n. packed n (fields_in t w)) (e ∙ sym (ap (λ (r : Row). r.kind) k))
    ∙ sym (d.fields w) ∙ ap (λ (r : Row). entry r w) k ∙ no_fields w ∙ sym (decode_illegal w e))
    (λ n. ap (λ k. packed k (fields_in t w)) (sym (kind_legal w n)) ∙ sym (d.fields w) ∙ decode_legal w n)

-- ---- an entry's parts

module _ (k d a b n : ℕ) (hd : Register d) (ha : Register a) (hb : Register b) (hn : n < 2 ^ 32) where
  pack_kind : k < 256 → field (pack k d a b n) 56 8 ≡ k
  pack_kind h = omega arith

  pack_d : field (pack k d a b n) 42 5 ≡ d
  pack_d = omega arith

  pack_a : field (pack k d a b n) 37 5 ≡ a
  pack_a = omega arith

  pack_b : field (pack k d a b n) 32 5 ≡ b
  pack_b = omega arith

  pack_i : field (pack k d a b n) 0 32 ≡ n
  pack_i = omega arith

-- ---- the widths of a row's fields

abbrev sized : Row → Bool
sized r =
    leb (width D r.bits) 5
    && (leb (width A r.bits) 5
    && (leb (width B r.bits) 5 && (form_width r.form (width I r.bits) && (eqb (length r.bits) 26 && ltb r.kind 256))))

record Sized (r : Row) : Type 0 where
  d : width D r.bits ≤ 5
  a : width A r.bits ≤ 5
  b : width B r.bits ≤ 5
  i : T (form_width r.form (width I r.bits))
  bits : length r.bits ≡ 26
  kind : r.kind < 256

rows_sized : T (every_row sized rows)
unfolding rows width
rows_sized = tt

first_sized : (w : ℕ) → Sized (first_fit rows w)
first_sized w =
    let r = first_fit rows w in
    let d = leb (width D r.bits) 5 in
    let a = leb (width A r.bits) 5 in
    let b = leb (width B r.bits) 5 in
    let i = form_width r.form (width I r.bits) in
    let l = eqb (length r.bits) 26 in
    let k = ltb r.kind 256 in
    let h : T (d && (a && (b && (i && (l && k))))) = first_has sized rows w rows_sized in
    let h₁ : T (a && (b && (i && (l && k)))) = and_right d (a && (b && (i && (l && k)))) h in
    let h₂ : T (b && (i && (l && k))) = and_right a (b && (i && (l && k))) h₁ in
    let h₃ : T (i && (l && k)) = and_right b (i && (l && k)) h₂ in
    let h₄ : T (l && k) = and_right i (l && k) h₃ in
    record {
      d = leb→le (width D r.bits) 5 (and_left d (a && (b && (i && (l && k)))) h);
      a = leb→le (width A r.bits) 5 (and_left a (b && (i && (l && k))) h₁);
      b = leb→le (width B r.bits) 5 (and_left b (i && (l && k)) h₂);
      i = and_left i (l && k) h₃;
      bits = eqb→eq (length r.bits) 26 (and_left l k h₄);
      kind = ltb→lt r.kind 256 (and_right l k h₄);
    }

module _ (r : Row) (w : ℕ) (s : Sized r) where
  register_lt : (f : Field) → width f r.bits ≤ 5 → Register (read f r.bits w)
  register_lt f h = let l : read f r.bits w < 2 ^ width f r.bits = read_lt f r.bits w in let m : 2 ^ width f r.bits ≤ 2 ^ 5 = pow_mono h in omega arith

  kept_lt : immediate r.form (read I r.bits w) < 2 ^ 32
  kept_lt = immediate_lt r.form (width I r.bits) (read I r.bits w) s.i (read_lt I r.bits w)

  entry_kind : field (entry r w) 56 8 ≡ r.kind
  unfolding entry
  entry_kind = pack_kind r.kind _ _ _ _ (register_lt D s.d) (register_lt A s.a) (register_lt B s.b) kept_lt s.kind

  -- an entry has the numbers that its word had
  holds : Holds r.bits (value r.form (entry r w)) w
  unfolding value entry
  holds D =
      ap (λ n. n % 2 ^ width D r.bits)
      (pack_d r.kind _ _ _ _ (register_lt D s.d) (register_lt A s.a) (register_lt B s.b) kept_lt)
      ∙ mod-eq_of_lt (read_lt D r.bits w)
  holds A =
      ap (λ n. n % 2 ^ width A r.bits)
      (pack_a r.kind _ _ _ _ (register_lt D s.d) (register_lt A s.a) (register_lt B s.b) kept_lt)
      ∙ mod-eq_of_lt (read_lt A r.bits w)
  holds B =
      ap (λ n. n % 2 ^ width B r.bits)
      (pack_b r.kind _ _ _ _ (register_lt D s.d) (register_lt A s.a) (register_lt B s.b) kept_lt)
      ∙ mod-eq_of_lt (read_lt B r.bits w)
  holds I =
      ap (λ n. immediate_bits r.form n % 2 ^ width I r.bits)
      (pack_i r.kind _ _ _ _ (register_lt D s.d) (register_lt A s.a) (register_lt B s.b) kept_lt)
      ∙ immediate_back r.form (width I r.bits) (read I r.bits w) s.i (read_lt I r.bits w)

-- ---- the word of a word's entry

-- a row that w hits: the word for w's entry agrees with w, has its opcode and is a word
module _ (r : Row) (w : ℕ) (s : Sized r) (h : T (hit r w)) where
  row_fits : T (fits r.bits w)
  row_fits = and_right (eqb (w / 2 ^ 26) r.opcode) (fits r.bits w) h

  row_opcode : w / 2 ^ 26 ≡ r.opcode
  row_opcode = eqb→eq (w / 2 ^ 26) r.opcode (and_left (eqb (w / 2 ^ 26) r.opcode) (fits r.bits w) h)

  filled_lt : fill r.bits (value r.form (entry r w)) < 2 ^ 26
  filled_lt =
      subst (λ (n : ℕ). fill r.bits (value r.form (entry r w)) < 2 ^ n) s.bits (fill_fits_lt r.bits (value r.form (entry r w)) w row_fits)

  same_opcode : word_for r (entry r w) / 2 ^ 26 ≡ w / 2 ^ 26
  unfolding word_for
  same_opcode = high r.opcode 26 filled_lt ∙ sym row_opcode

  same_bits : Agree r.bits (word_for r (entry r w)) w
  unfolding word_for
  same_bits =
      subst (λ (n : ℕ). Agree r.bits (r.opcode * 2 ^ n + fill r.bits (value r.form (entry r w))) w) s.bits
      (filled_agrees r.bits r.opcode (value r.form (entry r w)) w row_fits (holds r w s))

  word_lt : w < 2 ^ 32 → word_for r (entry r w) < 2 ^ 32
  unfolding word_for
  word_lt l = let a : w / 2 ^ 26 ≡ r.opcode = row_opcode in let b : fill r.bits (value r.form (entry r w)) < 2 ^ 26 = filled_lt in omega arith

-- a word and the word for its entry
pub record Recoded (w c : ℕ) : Type 0 where
  pub again : decode c ≡ decode w
  pub small : w < 2 ^ 32 → c < 2 ^ 32

kind_first : (w : ℕ) → kind_of w ≡ (first_fit rows w).kind
unfolding kind_of
kind_first w = refl

candidate_legal : (w : ℕ) → (kind_of w ≡ 1 → ⊥) → candidate (decode w) ≡ word_for (first_fit rows w) (entry (first_fit rows w) w)
unfolding candidate decode
candidate_legal w n =
    ap (λ k. word_for (kind_row k) (entry (first_fit rows w) w)) (entry_kind (first_fit rows w) w (first_sized w) ∙ sym (kind_first w))
    ∙ ap (λ (r : Row). word_for r (entry (first_fit rows w) w)) (own_row w n)

illegal_again : decode (candidate (2 ^ 56)) ≡ 2 ^ 56
unfolding rows fits first_fit width read immediate entry decode row_of kind_row fill value immediate_bits word_for candidate
illegal_again = refl

illegal_word_lem : candidate (2 ^ 56) ≡ 0xfc000000
unfolding rows row_of kind_row width fill value immediate_bits word_for candidate
illegal_word_lem = refl

recoded_illegal : (w : ℕ) → kind_of w ≡ 1 → Recoded w (candidate (decode w))
recoded_illegal w e =
    let d : decode w ≡ 2 ^ 56 = decode_illegal w e in
    record {
      again = ap (λ n. decode (candidate n)) d ∙ illegal_again ∙ sym d;
      small = λ l. rw (d, illegal_word_lem) (omega arith);
    }

recoded_legal : (w : ℕ) → (kind_of w ≡ 1 → ⊥) → Recoded w (candidate (decode w))
unfolding decode
recoded_legal w n =
    let r = first_fit rows w in
    let c = word_for r (entry r w) in
    let e : candidate (decode w) ≡ c = candidate_legal w n in
    ⊎_elim
    (λ i. absurd (n (kind_first w ∙ ap (λ (q : Row). q.kind) i)))
    (λ f.
    let o : c / 2 ^ 26 ≡ w / 2 ^ 26 = same_opcode r w (first_sized w) f.0 in
    let a : Agree r.bits c w = same_bits r w (first_sized w) f.0 in
    record {
      again = ap decode e ∙ ap (λ (q : Row). entry q c) (f.1 c o a) ∙ entry_same r c w a;
      small = λ l. rw e (word_lt r w (first_sized w) f.0 l);
    })
    (found_row w)

pub recoded : (w : ℕ) → Recoded w (candidate (decode w))
recoded w = by_equality (kind_of w) 1 (recoded_illegal w) (recoded_legal w)

-- ---- the kind of an entry

pub decode_kind : (w : ℕ) → field (decode w) 56 8 ≡ kind_of w
unfolding decode
decode_kind w = entry_kind (first_fit rows w) w (first_sized w) ∙ sym (kind_first w)
