-- Document 01's card with the line sr put in, and damaged ones, by one computed test. Assumes nothing.
use Prim.Native.Nat.{ℕ}
use Prim.Native.String.{String, ◌++◌}
use mathlib.Core.Bool.{Bool, true, false, ◌&&◌}
use mathlib.Core.List.{List, [], ◌∷◌}
use lib.Dec.{T, eqb}
use Rattle.arith.specs.Status.{allowed, only}
use Rattle.text.specs.Ascii.{ascii}
use Rattle.text.specs.Digits.{digit}
use Rattle.text.specs.Lines.{lines, entry_of}
use Rattle.card.specs.Card.{Job, Verdict, good, refused, word_lines, content, card_says}
use Rattle.card.specs.Answer.{job}
use Rattle.card.specs.Earlier.{earlier_content, earlier_says, put_in, with_sr}

same : List ℕ → List ℕ → Bool
same [] [] = true
same [] (y ∷ ys) = false
same (x ∷ xs) [] = false
same (x ∷ xs) (y ∷ ys) = eqb x y && same xs ys

agree : Verdict Job → Verdict Job → Bool
agree (good a) (good b) =
    eqb a.cores b.cores && eqb a.memory b.memory && eqb a.entry b.entry && eqb a.sr b.sr && eqb a.steps b.steps && same a.schedule b.schedule && same a.words b.words
agree (good a) (refused f n) = false
agree (refused f n) (good b) = false
agree (refused f n) (refused g m) = eqb f g && eqb n m

record Example : Type 0 where
  card : String
  says : Verdict Job

say : String → Verdict Job → Example
say card v = record { card = card; says = v }

right : List Example → Bool
right [] = true
right (e ∷ es) = agree (card_says (ascii e.card)) e.says && right es

-- it in parts: its header's lines, its w lines
head : String
head = "cores=1\nmemory=4096\nentry=00000000\nsr=00008001\nsteps=6\nschedule=0\n"

words : String
words = "words=4\nw=9c600005\nw=e0841800\nw=03ffffff\nw=15000000\n"

-- the rest of a card from its entry on; cards with other lines for sr, with another schedule
from_entry : String
from_entry = "entry=00000000\nsr=00008001\nsteps=6\nschedule=0\n" ++ words

from_sr : String → String
from_sr s = "cores=1\nmemory=4096\nentry=00000000\n" ++ s ++ "steps=6\nschedule=0\n" ++ words

from_schedule : String → String
from_schedule s = "cores=1\nmemory=4096\nentry=00000000\nsr=00008001\nsteps=6\nschedule=" ++ s ++ "\n" ++ words

examples : List Example
examples =
    say (head ++ words) (good (job 1 4096 0 0x8001 6 (0 ∷ []) (0x9c600005 ∷ 0xe0841800 ∷ 0x03ffffff ∷ 0x15000000 ∷ [])))
    ∷ say ("cores=2\nmemory=16384\nentry=fffffffc\nsr=0000be07\nsteps=16384\nschedule=0110\nwords=0\n") (good (job 2 16384 0xfffffffc 0xbe07 16384 (0 ∷ 1 ∷ 1 ∷ 0 ∷ []) []))
    ∷ say "" (refused 9 1)
    ∷ say ("core=1\nmemory=4096\n" ++ from_entry) (refused 9 1)
    ∷ say ("cores=5\nmemory=4096\n" ++ from_entry) (refused 10 1)
    ∷ say ("cores=5\nrubbish") (refused 10 1)
    ∷ say ("cores=1\r\nmemory=4096\n" ++ from_entry) (refused 9 1)
    ∷ say ("memory=4096\ncores=1\n" ++ from_entry) (refused 9 1)
    ∷ say ("cores=1\nmemory=12345678\n" ++ from_entry) (refused 9 2)
    ∷ say ("cores=1\nmemory=1234567\n" ++ from_entry) (refused 10 2)
    ∷ say ("cores=1\nmemory=4098\n" ++ from_entry) (refused 10 2)
    ∷ say ("cores=1\n\nmemory=4096\n" ++ from_entry) (refused 9 2)
    ∷ say ("cores=1\nmemory=4096\nentry=00000002\nsteps=6\n") (refused 10 3)
    ∷ say ("cores=1\nmemory=4096\nentry=0000000\nsteps=6\n") (refused 9 3)
    ∷ say (from_sr "") (refused 9 4)
    ∷ say "cores=1\nmemory=4096\nentry=00000000\n" (refused 9 4)
    ∷ say (from_sr "sr=8001\n") (refused 9 4)
    ∷ say (from_sr "sr=0000800g\n") (refused 9 4)
    ∷ say (from_sr "sr=0000BE07\n") (refused 9 4)
    ∷ say (from_sr "sr=00000001\n") (refused 10 4)
    ∷ say (from_sr "sr=0000c001\n") (refused 10 4)
    ∷ say (from_sr "sr=00018001\n") (refused 10 4)
    ∷ say (from_sr "sr=00008001\nsr=00008001\n") (refused 9 5)
    ∷ say ("cores=1\nmemory=4096\nsr=00008001\n" ++ from_entry) (refused 9 3)
    ∷ say ("cores=1\nmemory=4096\nentry=00000000\nsr=00008001\nsteps=06\n") (refused 9 5)
    ∷ say ("cores=1\nmemory=4096\nentry=00000000\nsr=00008001\nsteps=16385\n") (refused 10 5)
    ∷ say (from_schedule "9") (refused 10 6)
    ∷ say (from_schedule "9x") (refused 9 6)
    ∷ say (from_schedule "") (refused 9 6)
    ∷ say (from_schedule "00000000000000000") (refused 9 6)
    ∷ say (head ++ "words=1025\n") (refused 10 7)
    ∷ say (head ++ "words=1\nw=9C600005\n") (refused 9 8)
    ∷ say (head ++ "words=2\nw=9c600005\n") (refused 9 9)
    ∷ say (head ++ "words=1\nw=9c600005") (refused 9 8)
    ∷ say (head ++ words ++ "x") (refused 9 12)
    ∷ []

all_right : T (right examples)
unfolding same agree say right head words from_entry from_sr from_schedule examples digit lines entry_of allowed only word_lines content card_says
all_right = tt

-- document 01's card as it stands there: with the line put in it is the first above, and says what it said
earlier : String
earlier = "cores=1\nmemory=4096\nentry=00000000\nsteps=6\nschedule=0\n" ++ words

put_in_lem : T (same (with_sr (ascii earlier)) (ascii (head ++ words)) && agree (earlier_says (ascii earlier)) (card_says (ascii (head ++ words))))
unfolding same agree head words earlier digit lines entry_of allowed only word_lines content card_says earlier_content earlier_says put_in
put_in_lem = tt
