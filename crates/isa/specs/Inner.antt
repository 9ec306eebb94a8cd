-- How the decoder and the encoder cut the instruction set into parts: the kind by a few bits, the shape of a kind, the place of the immediate.
-- The instruction set itself is InstructionSet.antt; that these parts are its is proved (proofs/Rows.antt, Shapes.antt).
use Rattle.std.specs.Prelude.{Bool, false, ◌&&◌, List, [], ◌∷◌, ℕ, ◌+◌, ◌-◌, ◌*◌, ◌%◌, ◌^◌, eqb, leb, ltb, if◌then◌else◌}
use Rattle.bits.specs.Word.{field}
use Rattle.isa.specs.InstructionSet as set
use Rattle.isa.specs.InstructionSet.{Mark, must, of, reserved, Row, rows, first_fit, same_field, width, immediate, pack, immediate_bits}
use Rattle.isa.specs.declared.kinds.Place.{Place}
use Rattle.isa.specs.declared.kinds.Place.TheVariants.{None, Low5, Low16, Low26, Split}
use Rattle.isa.specs.declared.kinds.Form.{Form}
use Rattle.isa.specs.declared.kinds.Form.TheVariants.{Zext, Sext, Jump}
use Rattle.isa.specs.declared.kinds.Shape.{Shape}
use Rattle.isa.specs.declared.entry.Fields.{Fields}

-- the kind of a word
unfoldable pub kind_of : ℕ → ℕ
kind_of w = (first_fit rows w).kind

-- the kind of the word with that opcode, x at bit low and 0 elsewhere
unfoldable pub kind_in : ℕ → ℕ → ℕ → ℕ
kind_in opcode low x = kind_of (opcode * 2 ^ 26 + x * 2 ^ low)

-- the kind of a compare, by bits 25-21, in the group whose kinds begin at first
unfoldable pub compare_kind : ℕ → ℕ → ℕ
compare_kind first x =
    if leb x 5 then first + x else
    if leb 10 x && leb x 13 then first + x - 4 else
    1

abbrev pub packed : ℕ → Fields → ℕ
packed k f = pack k f.d f.a f.b f.immediate

abbrev pub form_of : Form → set.Form
form_of Zext = set.zext
form_of Sext = set.sext
form_of Jump = set.jump

-- the immediate's bits in a word, and in their place in a word
abbrev pub gathered : Place → ℕ → ℕ
gathered None w = 0
gathered Low5 w = w % 2 ^ 5
gathered Low16 w = w % 2 ^ 16
gathered Low26 w = w % 2 ^ 26
gathered Split w = field w 21 5 * 2 ^ 11 + w % 2 ^ 11

abbrev pub scattered : Place → ℕ → ℕ
scattered None n = 0
scattered Low5 n = n % 2 ^ 5
scattered Low16 n = n % 2 ^ 16
scattered Low26 n = n % 2 ^ 26
scattered Split n = field n 11 5 * 2 ^ 21 + n % 2 ^ 11

abbrev pub shape : Bool → Bool → Bool → Place → Form → Shape
shape d a b p f = record { d = d; a = a; b = b; place = p; form = f }

-- the fields of a word of that shape, and the bits that an entry's fields take in it
abbrev pub fields_in : Shape → ℕ → Fields
fields_in t w = record {
  d = if t.d then field w 21 5 else 0;
  a = if t.a then field w 16 5 else 0;
  b = if t.b then field w 11 5 else 0;
  immediate = immediate (form_of t.form) (gathered t.place w);
}

abbrev pub bits_of : Shape → Fields → ℕ
bits_of t f =
    (if t.d then f.d * 2 ^ 21 else 0) + (if t.a then f.a * 2 ^ 16 else 0) + (if t.b then f.b * 2 ^ 11 else 0)
    + scattered t.place (immediate_bits (form_of t.form) f.immediate)

-- the shape that a row's picture has: a register is there if it has bits; an immediate of 16 bits is split if the picture leads with it
abbrev pub has : set.Field → List Mark → Bool
has f p = ltb 0 (width f p)

abbrev pub leads : List Mark → Bool
leads [] = false
leads (must v ∷ p) = false
leads (of f ∷ p) = same_field f set.I
leads (reserved ∷ p) = false

abbrev pub place_in : List Mark → Place
place_in p =
    if eqb (width set.I p) 5 then Low5 else
    if eqb (width set.I p) 26 then Low26 else
    if eqb (width set.I p) 16 then (if leads p then Split else Low16) else
    None

abbrev pub form_in : set.Form → Form
form_in set.zext = Zext
form_in set.sext = Sext
form_in set.jump = Jump

abbrev pub shape_in : Row → Shape
shape_in r = shape (has set.D r.bits) (has set.A r.bits) (has set.B r.bits) (place_in r.bits) (form_in r.form)
