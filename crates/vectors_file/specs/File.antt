-- What the file named `vectors` says: document 02, note 6. "It is read before the card, under the card's form and length rules; faults are 9 and 10 and print
-- alike."
use Rattle.std.specs.Prelude.{ℕ, ◌+◌, ◌-◌, List, [], ◌∷◌, map, if◌then◌else◌}
use Prim.Native.String.{String}
use Rattle.isa.specs.Vectors.{causes, old_vectors, vector_count}
use Rattle.isa.specs.declared.vectors.Cause.{Cause}
use Rattle.isa.specs.declared.vectors.Cause.TheVariants.{Bus, Alignment, Illegal, Range, Syscall, Trap, Interrupt}
use Rattle.vector_list.specs.Rules.{vector_end, first_repeat, are_distinct}
use Rattle.text.specs.Numbers.{hexadecimal}
use Rattle.card.specs.Card.{Field, limited, Verdict, good, refused, Left, line, no_line_left, whole, form_fault, repeat_fault}

-- "seven lines bus, align, illegal, range, syscall, trap, interrupt, .. in that order"
abbrev pub key : Cause → String
key Bus = "bus="
key Alignment = "align="
key Illegal = "illegal="
key Range = "range="
key Syscall = "syscall="
key Trap = "trap="
key Interrupt = "interrupt="

abbrev pub keys : List String
keys = map key causes

-- "each with eight hexadecimal digits" (lower-case, as the card's: "Entry and w have eight lower-case hexadecimal digits"); "Addresses are multiples of 4 below
-- 1,048,576."
abbrev pub address : List ℕ → Field ℕ
address t = limited 0 (vector_end - 1) 4 (hexadecimal t)

-- a line for each key, in their order
unfoldable pub address_lines : {B : Type 0} → List String → Left → (List ℕ → Left → Verdict B) → Verdict B
address_lines [] left k = k [] left
address_lines (key ∷ keys) left k = line key address left (λ v left. address_lines keys left (λ vs. k (v ∷ vs)))

-- "Once the whole file passes these, it refuses with 13 two equal addresses, at the first line that repeats one"
unfoldable pub distinct : List ℕ → Verdict (List ℕ)
distinct vectors = if are_distinct vectors vector_count then good vectors else refused repeat_fault (first_repeat vectors 0 vector_count + 1)

unfoldable pub content : Left → Verdict (List ℕ)
content left = address_lines keys left (λ vectors left. no_line_left left.rest left.next (distinct vectors))

-- the file: its bytes; or none is there; or it is there and cannot be read
pub data File : Type 0 where
  bytes : List ℕ → File
  absent : File
  unreadable : File

-- "With no such file the old list holds." Of one that cannot be read no sentence speaks: it is no list, a fault of form before any line (docs/DECISIONS.md, 72)
unfoldable pub vectors_say : File → Verdict (List ℕ)
vectors_say (bytes file) = whole file content
vectors_say absent = good old_vectors
vectors_say unreadable = refused form_fault 0
