-- What the encoder promises, from what every word's entry has. Assumes nothing.
use Rattle.std.specs.Prelude.{Bool, true, false}
use Rattle.std.specs.Bool.{then_some}
use lib.Dec.{eqb, eqb→eq}
use mathlib.Core.Path.{◌≡◌, ◌∙◌, subst, sym, ap, ap₂}
use Prim.Native.Nat.{ℕ, ◌+◌, ◌^◌, ◌≤◌, ◌<◌}
use native.Mathlib.Omega.{arith}
use borrow.Author.Tests.{eq-eqb, ne_eqb}
use Rattle.bits.specs.Word.{field}
use Rattle.isa.specs.Groups.{kinds}
use Rattle.isa.specs.InstructionSet.{kind_row, decode, word_for, candidate}
use Rattle.isa.specs.Entry.{fields_of}
use Rattle.isa.specs.Inner.{kind_of, bits_of}
use Rattle.isa.specs.declared.entry.Fields.{Fields}
use Rattle.isa.specs.declared.kinds.Shape.{Shape}
use Rattle.isa.proofs.Complete.{recoded, decode_kind}
use Rattle.isa.proofs.Rows.{kind_range}
use Rattle.isa.proofs.Shapes.{Describes}
use Rattle.codec.specs.Encoding.{encode, Encodes}
use Rattle.std.specs.Prelude.{Some, None}

-- every word's entry encodes, to a word that decodes to it
pub complete : (w : ℕ) → w < 2 ^ 32 → (encode (decode w) ≡ Some (candidate (decode w))) × (candidate (decode w) < 2 ^ 32) × (decode (candidate (decode w)) ≡ decode w)
unfolding encode
complete w l =
    let r = recoded w in
    (rw (eq-eqb (decode (candidate (decode w))) (decode w) r.again), r.small l, r.again)

taken : (e : ℕ) → decode (candidate e) ≡ e → encode e ≡ Some (candidate e)
unfolding encode
taken e h = rw (eq-eqb (decode (candidate e)) e h)

refused : (e : ℕ) → (decode (candidate e) ≡ e → ⊥) → encode e ≡ None
unfolding encode
refused e h = rw (ne_eqb (decode (candidate e)) e h)

pub encodes_word : (e c : ℕ) → c ≡ candidate e → c < 2 ^ 32 → decode c ≡ e → Encodes e (Some c)
encodes_word e c h l d =
    record {
      exact = ap Some h ∙ sym (taken e (rw h at d));
      sound = λ q. (l, d);
      complete = λ q. absurd (omega (arith, q));
    }

pub encodes_none : (e : ℕ) → (decode (candidate e) ≡ e → ⊥) → Encodes e None
encodes_none e n =
    record {
      exact = sym (refused e n);
      sound = λ q. absurd (omega (arith, q));
      complete = λ q w l d. n (ap (λ x. decode (candidate x)) (sym d) ∙ (recoded w).again ∙ d);
    }

-- c is the answer if it decodes to e
pub encodes_by : (e c : ℕ) → c ≡ candidate e → c < 2 ^ 32 → (b : Bool) → b ≡ eqb (decode c) e → Encodes e (then_some b c)
encodes_by e c h l true t = encodes_word e c h l (eqb→eq (decode c) e (rw (← t) tt))
encodes_by e c h l false t = encodes_none e (λ q. let f : eqb (decode c) e ≡ true = eq-eqb (decode c) e (rw h q) in cc)

-- a number above the kinds is no entry's kind
pub encodes_high : (e : ℕ) → kinds ≤ field e 56 8 → Encodes e None
encodes_high e h =
    encodes_none e (λ q.
    let k : field e 56 8 ≡ kind_of (candidate e) = ap (λ n. field n 56 8) (sym q) ∙ decode_kind (candidate e) in
    let l : kind_of (candidate e) < kinds = (kind_range (candidate e)).1 in
    omega arith)

-- the word that the code makes for an entry
module _ (e k bare bits : ℕ) (t : Shape) (f : Fields) (kind : k ≡ field e 56 8) (d : Describes k t) (b : bare ≡ word_for (kind_row k) 0)
    (g : bits ≡ bits_of t f) (h : f ≡ fields_of e) where
  made_word : bare + bits ≡ word_for (kind_row k) e
  made_word = ap₂ (λ m n. m + n) b (g ∙ ap (bits_of t) h) ∙ sym (d.word e)

  pub made : bare + bits ≡ candidate e
  unfolding candidate
  made = made_word ∙ ap (λ n. word_for (kind_row n) e) kind

  pub made_lt : bare + bits < 2 ^ 32
  made_lt = subst (λ (n : ℕ). n < 2 ^ 32) (sym made_word) (d.small e)
