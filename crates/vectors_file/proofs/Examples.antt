-- Files good and damaged, by one computed test. Assumes nothing.
use Prim.Native.Nat.{ℕ}
use Prim.Native.String.{String, ◌++◌}
use mathlib.Core.Bool.{Bool, true, false, ◌&&◌}
use mathlib.Core.List.{List, [], ◌∷◌}
use lib.Dec.{T, eqb}
use Rattle.bits.specs.Every.{every_below}
use Rattle.text.specs.Ascii.{ascii}
use Rattle.text.specs.Digits.{digit}
use Rattle.text.specs.Lines.{lines, entry_of}
use Rattle.card.specs.Card.{Verdict, good, refused}
use Rattle.isa.specs.Vectors.{old_vectors}
use Rattle.vector_list.specs.Rules.{is_new, first_repeat}
use Rattle.vectors_file.specs.File.{File, bytes, absent, unreadable, address_lines, distinct, content, vectors_say}

same : List ℕ → List ℕ → Bool
same [] [] = true
same [] (y ∷ ys) = false
same (x ∷ xs) [] = false
same (x ∷ xs) (y ∷ ys) = eqb x y && same xs ys

agree : Verdict (List ℕ) → Verdict (List ℕ) → Bool
agree (good a) (good b) = same a b
agree (good a) (refused f n) = false
agree (refused f n) (good b) = false
agree (refused f n) (refused g m) = eqb f g && eqb n m

record Example : Type 0 where
  file : File
  says : Verdict (List ℕ)

say : File → Verdict (List ℕ) → Example
say file v = record { file = file; says = v }

text : String → Verdict (List ℕ) → Example
text file v = say (bytes (ascii file)) v

right : List Example → Bool
right [] = true
right (e ∷ es) = agree (vectors_say e.file) e.says && right es

-- the old list's lines: the first four, and the rest
upper : String
upper = "bus=00000200\nalign=00000600\nillegal=00000700\nrange=00000b00\n"

lower : String
lower = "syscall=00000c00\ntrap=00000e00\ninterrupt=00000800\n"

-- a file with another line for syscall
ends : String → String
ends s = upper ++ s ++ "trap=00000e00\ninterrupt=00000800\n"

examples : List Example
examples =
    say absent (good old_vectors)
    ∷ say unreadable (refused 9 0)
    ∷ text (upper ++ lower) (good old_vectors)
    ∷ text "" (refused 9 1)
    ∷ text (upper ++ lower ++ "\n") (refused 9 8)
    ∷ text upper (refused 9 5)
    ∷ text (ends "syscall=000ffffc\n") (good (0x200 ∷ 0x600 ∷ 0x700 ∷ 0xb00 ∷ 0xffffc ∷ 0xe00 ∷ 0x800 ∷ []))
    ∷ text (ends "syscall=00100000\n") (refused 10 5)
    ∷ text (ends "syscall=00000c02\n") (refused 10 5)
    ∷ text (ends "syscall=00000C00\n") (refused 9 5)
    ∷ text (ends "syscall=00000200\n") (refused 13 5)
    ∷ text (upper ++ "syscall=00000200\ntrap=00000e00\ninterrupt=800\n") (refused 9 7)
    ∷ text (upper ++ "syscall=00000200\ntrap=00000e00\ninterrupt=00100000\n") (refused 10 7)
    ∷ text (ends "syscall=00000200\n" ++ "\n") (refused 9 8)
    ∷ text (upper ++ "syscall=00000200\ntrap=00000e00\ninterrupt=00000200\n") (refused 13 5)
    ∷ text ("align=00000600\nbus=00000200\nillegal=00000700\nrange=00000b00\n" ++ lower) (refused 9 1)
    ∷ []

all_right : T (right examples)
unfolding same agree say text right upper lower ends examples every_below digit lines entry_of is_new first_repeat address_lines distinct content vectors_say
all_right = tt
