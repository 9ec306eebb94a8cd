-- The instruction set: document 01, "Words and kinds", in its order, and document 02, note 2 (refusal 8 stands in Encoding).
use Rattle.std.specs.Prelude.{Bool, true, false, ◌&&◌, List, [], ◌∷◌, ℕ, suc, ◌+◌, ◌*◌, ◌/◌, ◌^◌, eqb, pos, ◌*ℤ◌, length, if◌then◌else◌}
use Prim.Native.Char.{Char, code}
use Prim.Native.String as text
use Prim.Native.String.{String}
use Rattle.bits.specs.Word.{field, bit_at, word, signed}

-- "Fields: D 25–21, A 20–16, B 15–11, I 15–0; stores, l.swa, l.mtspr and p.* split I over 25–21 and 10–0."
pub data Field : Type 0 where
  D : Field
  A : Field
  B : Field
  I : Field

-- What a bit of a word is to a row: a bit that must be 0 or 1, a bit of a field, or reserved.
pub data Mark : Type 0 where
  must : ℕ → Mark
  of : Field → Mark
  reserved : Mark

-- A picture of bits, from the highest down to bit 0: 0 and 1 must be so, d, a, b and i are fields' bits, - is reserved. Blanks are for the eye.
abbrev is_char : Char → Char → Bool
is_char c d = eqb (code c) (code d)

abbrev mark : Char → List Mark → List Mark
mark c p =
    if is_char c " " then p else
    if is_char c "0" then must 0 ∷ p else
    if is_char c "1" then must 1 ∷ p else
    if is_char c "d" then of D ∷ p else
    if is_char c "a" then of A ∷ p else
    if is_char c "b" then of B ∷ p else
    if is_char c "i" then of I ∷ p else
    reserved ∷ p

abbrev pub picture : String → List Mark
picture text.[] = []
picture (text.◌∷◌ c s) = mark c (picture s)

-- How the immediate is kept: zero-extended, sign-extended, or as a jump's. "jumps and branches 4 times their signed 26 bits; andi, ori, movhi, nop, sys, trap, SPR numbers zero-extended;
-- shifts the low five bits; the rest sign-extended, xori and unsigned compares included." A row without an immediate keeps 0.
pub data Form : Type 0 where
  zext : Form
  sext : Form
  jump : Form

-- A row: its kind, the opcode that chooses it, the form of its immediate, the picture of bits 25 to 0.
pub record Row : Type 0 where
  pub kind : ℕ
  pub opcode : ℕ
  pub form : Form
  pub bits : List Mark

abbrev pub row : ℕ → ℕ → Form → String → Row
row k o f s = record { kind = k; opcode = o; form = f; bits = picture s }

-- "Kinds are counted in this order, opcode in hexadecimal." l.jalr naming r9 is kind 1, so it stands before l.jalr.
unfoldable pub rows : List Row
rows =
    row 2 0x00 jump "iiiiiiiiiiiiiiiiiiiiiiiiii" ∷  -- l.j
    row 3 0x01 jump "iiiiiiiiiiiiiiiiiiiiiiiiii" ∷  -- l.jal
    row 4 0x03 jump "iiiiiiiiiiiiiiiiiiiiiiiiii" ∷  -- l.bnf
    row 5 0x04 jump "iiiiiiiiiiiiiiiiiiiiiiiiii" ∷  -- l.bf
    row 6 0x05 zext "01-------- iiiiiiiiiiiiiiii" ∷  -- l.nop
    row 7 0x06 zext "ddddd ----0 iiiiiiiiiiiiiiii" ∷  -- l.movhi
    row 8 0x08 zext "0000000000 iiiiiiiiiiiiiiii" ∷  -- l.sys
    row 9 0x08 zext "0100000000 iiiiiiiiiiiiiiii" ∷  -- l.trap
    row 10 0x08 zext "1000000000 ----------------" ∷  -- l.msync
    row 11 0x08 zext "1010000000 ----------------" ∷  -- l.psync
    row 12 0x08 zext "1100000000 ----------------" ∷  -- l.csync
    row 13 0x09 zext "--------------------------" ∷  -- l.rfe
    row 14 0x11 zext "---------- bbbbb -----------" ∷  -- l.jr
    row 1 0x12 zext "---------- 01001 -----------" ∷  -- l.jalr naming r9
    row 15 0x12 zext "---------- bbbbb -----------" ∷  -- l.jalr
    row 16 0x1b sext "ddddd aaaaa iiiiiiiiiiiiiiii" ∷  -- l.lwa
    row 17 0x21 sext "ddddd aaaaa iiiiiiiiiiiiiiii" ∷  -- l.lwz
    row 18 0x22 sext "ddddd aaaaa iiiiiiiiiiiiiiii" ∷  -- l.lws
    row 19 0x23 sext "ddddd aaaaa iiiiiiiiiiiiiiii" ∷  -- l.lbz
    row 20 0x24 sext "ddddd aaaaa iiiiiiiiiiiiiiii" ∷  -- l.lbs
    row 21 0x25 sext "ddddd aaaaa iiiiiiiiiiiiiiii" ∷  -- l.lhz
    row 22 0x26 sext "ddddd aaaaa iiiiiiiiiiiiiiii" ∷  -- l.lhs
    row 23 0x27 sext "ddddd aaaaa iiiiiiiiiiiiiiii" ∷  -- l.addi
    row 24 0x28 sext "ddddd aaaaa iiiiiiiiiiiiiiii" ∷  -- l.addic
    row 25 0x29 zext "ddddd aaaaa iiiiiiiiiiiiiiii" ∷  -- l.andi
    row 26 0x2a zext "ddddd aaaaa iiiiiiiiiiiiiiii" ∷  -- l.ori
    row 27 0x2b sext "ddddd aaaaa iiiiiiiiiiiiiiii" ∷  -- l.xori
    row 28 0x2d zext "ddddd aaaaa iiiiiiiiiiiiiiii" ∷  -- l.mfspr
    row 29 0x2e zext "ddddd aaaaa -------- 00-iiiii" ∷  -- l.slli
    row 30 0x2e zext "ddddd aaaaa -------- 01-iiiii" ∷  -- l.srli
    row 31 0x2e zext "ddddd aaaaa -------- 10-iiiii" ∷  -- l.srai
    row 32 0x2e zext "ddddd aaaaa -------- 11-iiiii" ∷  -- l.rori
    row 33 0x2f sext "00000 aaaaa iiiiiiiiiiiiiiii" ∷  -- l.sfeqi
    row 34 0x2f sext "00001 aaaaa iiiiiiiiiiiiiiii" ∷  -- l.sfnei
    row 35 0x2f sext "00010 aaaaa iiiiiiiiiiiiiiii" ∷  -- l.sfgtui
    row 36 0x2f sext "00011 aaaaa iiiiiiiiiiiiiiii" ∷  -- l.sfgeui
    row 37 0x2f sext "00100 aaaaa iiiiiiiiiiiiiiii" ∷  -- l.sfltui
    row 38 0x2f sext "00101 aaaaa iiiiiiiiiiiiiiii" ∷  -- l.sfleui
    row 39 0x2f sext "01010 aaaaa iiiiiiiiiiiiiiii" ∷  -- l.sfgtsi
    row 40 0x2f sext "01011 aaaaa iiiiiiiiiiiiiiii" ∷  -- l.sfgesi
    row 41 0x2f sext "01100 aaaaa iiiiiiiiiiiiiiii" ∷  -- l.sfltsi
    row 42 0x2f sext "01101 aaaaa iiiiiiiiiiiiiiii" ∷  -- l.sflesi
    row 43 0x30 zext "iiiii aaaaa bbbbb iiiiiiiiiii" ∷  -- l.mtspr
    row 44 0x33 sext "iiiii aaaaa bbbbb iiiiiiiiiii" ∷  -- l.swa
    row 45 0x35 sext "iiiii aaaaa bbbbb iiiiiiiiiii" ∷  -- l.sw
    row 46 0x36 sext "iiiii aaaaa bbbbb iiiiiiiiiii" ∷  -- l.sb
    row 47 0x37 sext "iiiii aaaaa bbbbb iiiiiiiiiii" ∷  -- l.sh
    row 48 0x38 zext "ddddd aaaaa bbbbb - 00-- --0000" ∷  -- l.add
    row 49 0x38 zext "ddddd aaaaa bbbbb - 00-- --0001" ∷  -- l.addc
    row 50 0x38 zext "ddddd aaaaa bbbbb - 00-- --0010" ∷  -- l.sub
    row 51 0x38 zext "ddddd aaaaa bbbbb - 00-- --0011" ∷  -- l.and
    row 52 0x38 zext "ddddd aaaaa bbbbb - 00-- --0100" ∷  -- l.or
    row 53 0x38 zext "ddddd aaaaa bbbbb - 00-- --0101" ∷  -- l.xor
    row 54 0x38 zext "ddddd aaaaa bbbbb - 0000 --1000" ∷  -- l.sll
    row 55 0x38 zext "ddddd aaaaa bbbbb - 0001 --1000" ∷  -- l.srl
    row 56 0x38 zext "ddddd aaaaa bbbbb - 0010 --1000" ∷  -- l.sra
    row 57 0x38 zext "ddddd aaaaa bbbbb - 0011 --1000" ∷  -- l.ror
    row 58 0x38 zext "ddddd aaaaa ----- - 0000 --1100" ∷  -- l.exths
    row 59 0x38 zext "ddddd aaaaa ----- - 0001 --1100" ∷  -- l.extbs
    row 60 0x38 zext "ddddd aaaaa ----- - 0010 --1100" ∷  -- l.exthz
    row 61 0x38 zext "ddddd aaaaa ----- - 0011 --1100" ∷  -- l.extbz
    row 62 0x38 zext "ddddd aaaaa ----- - 0000 --1101" ∷  -- l.extws
    row 63 0x38 zext "ddddd aaaaa ----- - 0001 --1101" ∷  -- l.extwz
    row 64 0x38 zext "ddddd aaaaa bbbbb - 00-- --1110" ∷  -- l.cmov
    row 65 0x38 zext "ddddd aaaaa ----- - 00-- --1111" ∷  -- l.ff1
    row 66 0x38 zext "ddddd aaaaa ----- - 01-- --1111" ∷  -- l.fl1
    row 67 0x39 zext "00000 aaaaa bbbbb -----------" ∷  -- l.sfeq
    row 68 0x39 zext "00001 aaaaa bbbbb -----------" ∷  -- l.sfne
    row 69 0x39 zext "00010 aaaaa bbbbb -----------" ∷  -- l.sfgtu
    row 70 0x39 zext "00011 aaaaa bbbbb -----------" ∷  -- l.sfgeu
    row 71 0x39 zext "00100 aaaaa bbbbb -----------" ∷  -- l.sfltu
    row 72 0x39 zext "00101 aaaaa bbbbb -----------" ∷  -- l.sfleu
    row 73 0x39 zext "01010 aaaaa bbbbb -----------" ∷  -- l.sfgts
    row 74 0x39 zext "01011 aaaaa bbbbb -----------" ∷  -- l.sfges
    row 75 0x39 zext "01100 aaaaa bbbbb -----------" ∷  -- l.sflts
    row 76 0x39 zext "01101 aaaaa bbbbb -----------" ∷  -- l.sfles
    row 77 0x3e sext "iiiii aaaaa ---01 iiiiiiiiiii" ∷  -- p.cinvalidate
    row 78 0x3e sext "iiiii aaaaa ---10 iiiiiiiiiii" ∷  -- p.cwriteback
    row 79 0x3e sext "iiiii aaaaa ---11 iiiiiiiiiii" ∷  -- p.cflush
    -- "Kinds 80–88 are, in order, l.mul, l.muli, l.mulu, l.div, l.divu, l.maci, l.mac, l.msb and l.macrc. Document 001 gives the layouts of the first six.
    -- l.mac and l.msb are opcode 31 with bits 3–0 1 and 2; l.macrc is opcode 06 with bit 16 set."
    row 80 0x38 zext "ddddd aaaaa bbbbb - 11-- --0110" ∷  -- l.mul
    row 81 0x2c sext "ddddd aaaaa iiiiiiiiiiiiiiii" ∷  -- l.muli
    row 82 0x38 zext "ddddd aaaaa bbbbb - 11-- --1011" ∷  -- l.mulu
    row 83 0x38 zext "ddddd aaaaa bbbbb - 11-- --1001" ∷  -- l.div
    row 84 0x38 zext "ddddd aaaaa bbbbb - 11-- --1010" ∷  -- l.divu
    row 85 0x13 sext "----- aaaaa iiiiiiiiiiiiiiii" ∷  -- l.maci
    row 86 0x31 zext "----- aaaaa bbbbb ------- 0001" ∷  -- l.mac
    row 87 0x31 zext "----- aaaaa bbbbb ------- 0010" ∷  -- l.msb
    row 88 0x06 zext "ddddd ----1 ----------------" ∷  -- l.macrc
    []

-- "Any word that no row fits [..] is kind 1 with zero fields." "The encoder writes [..] kind 1 as fc000000."
abbrev pub illegal : Row
illegal = row 1 0x3f zext "--------------------------"

-- The bits that must be 0 or 1 are so in the word w; "reserved bits are ignored".
unfoldable pub fits : List Mark → ℕ → Bool
fits [] w = true
fits (must v ∷ p) w = eqb (bit_at (length p) w) v && fits p w
fits (of f ∷ p) w = fits p w
fits (reserved ∷ p) w = fits p w

-- "The top six bits choose the row": the first of the rows with that opcode that fits.
unfoldable pub first_fit : List Row → ℕ → Row
first_fit [] w = illegal
first_fit (r ∷ rs) w = if eqb (w / 2 ^ 26) r.opcode && fits r.bits w then r else first_fit rs w

abbrev pub same_field : Field → Field → Bool
same_field D D = true
same_field D A = false
same_field D B = false
same_field D I = false
same_field A D = false
same_field A A = true
same_field A B = false
same_field A I = false
same_field B D = false
same_field B A = false
same_field B B = true
same_field B I = false
same_field I D = false
same_field I A = false
same_field I B = false
same_field I I = true

-- How many bits a picture has of the field f.
unfoldable pub width : Field → List Mark → ℕ
width f [] = 0
width f (must v ∷ p) = width f p
width f (of g ∷ p) = if same_field f g then suc (width f p) else width f p
width f (reserved ∷ p) = width f p

-- The number that the bits of the field f are in the word w, the leftmost the highest. "Unused fields are 0."
unfoldable pub read : Field → List Mark → ℕ → ℕ
read f [] w = 0
read f (must v ∷ p) w = read f p w
read f (of g ∷ p) w = if same_field f g then bit_at (length p) w * 2 ^ width f p + read f p w else read f p w
read f (reserved ∷ p) w = read f p w

-- "The immediate is kept as execution uses it."
unfoldable pub immediate : Form → ℕ → ℕ
immediate zext n = n
immediate sext n = word (signed 16 n)
immediate jump n = word (pos 4 *ℤ signed 26 n)

-- An entry: "bits 63–56 kind, 46–42 D, 41–37 A, 36–32 B, 31–0 immediate, the rest 0."
abbrev pub pack : ℕ → ℕ → ℕ → ℕ → ℕ → ℕ
pack k d a b n = k * 2 ^ 56 + d * 2 ^ 42 + a * 2 ^ 37 + b * 2 ^ 32 + n

unfoldable pub entry : Row → ℕ → ℕ
entry r w = pack r.kind (read D r.bits w) (read A r.bits w) (read B r.bits w) (immediate r.form (read I r.bits w))

-- The entry that a word decodes to.
unfoldable pub decode : ℕ → ℕ
decode w = entry (first_fit rows w) w

-- The row of a kind; a number that is no kind has none, and gets kind 1's.
unfoldable pub row_of : List Row → ℕ → Row
row_of [] k = illegal
row_of (r ∷ rs) k = if eqb k r.kind then r else row_of rs k

unfoldable pub kind_row : ℕ → Row
kind_row k = row_of (illegal ∷ rows) k

-- The bits that an immediate takes in a word.
unfoldable pub immediate_bits : Form → ℕ → ℕ
immediate_bits zext n = n
immediate_bits sext n = n
immediate_bits jump n = n / 4

-- What an entry has for a field.
unfoldable pub value : Form → ℕ → Field → ℕ
value f e D = field e 42 5
value f e A = field e 37 5
value f e B = field e 32 5
value f e I = immediate_bits f (field e 0 32)

-- A picture's bits with v's numbers in its fields. "The encoder writes reserved bits as 0."
unfoldable pub fill : List Mark → (Field → ℕ) → ℕ
fill [] v = 0
fill (must b ∷ p) v = b * 2 ^ length p + fill p v
fill (of f ∷ p) v = bit_at (width f p) (v f) * 2 ^ length p + fill p v
fill (reserved ∷ p) v = fill p v

unfoldable pub word_for : Row → ℕ → ℕ
word_for r e = r.opcode * 2 ^ 26 + fill r.bits (value r.form e)

-- The word that the encoder writes for an entry, if that decodes to it.
unfoldable pub candidate : ℕ → ℕ
candidate e = word_for (kind_row (field e 56 8)) e
