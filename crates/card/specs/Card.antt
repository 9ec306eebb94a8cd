-- What a run card says: document 01, "The run card", and refusals 1, 9 and 10 of "Turned back"; document 02, note 7, on the line sr. A card is its bytes.
use Rattle.std.specs.Prelude.{ℕ, zero, suc, ◌+◌, ◌/◌, ◌%◌, Bool, ◌&&◌, List, [], ◌∷◌, map, length, Option, Some, None, eqb, ltb, leb, if◌then◌else◌}
use Rattle.std.specs.List.{list_all}
use Prim.Native.String.{String}
use Rattle.arith.specs.Status.{allowed}
use Rattle.text.specs.Ascii.{ascii}
use Rattle.text.specs.Digits.{digit}
use Rattle.text.specs.Numbers.{within, decimal, hexadecimal}
use Rattle.text.specs.Lines.{Line, lines, Entry, entry, missing, entry_of}

-- 1: "memory or card image of wrong length (card: line 0)"
abbrev pub image_fault : ℕ
image_fault = 1

-- 9: "card line missing, misplaced, ill-formed or left over; over 65,536 bytes (line 0)"
abbrev pub form_fault : ℕ
form_fault = 9

-- 10: "well-formed card value outside its limits"
abbrev pub value_fault : ℕ
value_fault = 10

-- 13, of the file of vectors alone: document 02, note 6, "two equal addresses"
abbrev pub repeat_fault : ℕ
repeat_fault = 13

-- the limits that the lines below cite
abbrev pub max_card : ℕ
max_card = 65536

abbrev pub max_cores : ℕ
max_cores = 4

abbrev pub min_memory : ℕ
min_memory = 4096

abbrev pub max_memory : ℕ
max_memory = 16384

abbrev pub max_steps : ℕ
max_steps = 16384

abbrev pub max_digits : ℕ
max_digits = 16

abbrev pub max_word : ℕ
max_word = 0xffffffff

-- what the text after a key says: a value, or the number of the refusal
pub data Field (A : Type 0) : Type 0 where
  value : A → Field A
  fault : ℕ → Field A

-- a number that f lets pass
abbrev pub tested : (ℕ → Bool) → Option ℕ → Field ℕ
tested f (Some v) = if f v then value v else fault value_fault
tested f None = fault form_fault

-- a number from low to high that is a multiple of m
abbrev pub limited : ℕ → ℕ → ℕ → Option ℕ → Field ℕ
limited low high m = tested (λ v. within low high v && eqb (v % m) 0)

-- "cores 1–4"
abbrev pub cores : List ℕ → Field ℕ
cores t = limited 1 max_cores 1 (decimal t)

-- "memory 4,096–16,384, a multiple of 4"
abbrev pub memory : List ℕ → Field ℕ
memory t = limited min_memory max_memory 4 (decimal t)

-- "entry, a multiple of 4": eight digits have no other limit
abbrev pub entry_address : List ℕ → Field ℕ
entry_address t = limited 0 max_word 4 (hexadecimal t)

-- Document 02, note 7: "a line sr follows entry, with eight lower-case hexadecimal digits, ..
-- A value that no sheet's SR may have is refused by 10 at that line."
abbrev pub status : List ℕ → Field ℕ
status t = tested (λ v. eqb (allowed v) v) (hexadecimal t)

-- "steps 0–16,384"
abbrev pub steps : List ℕ → Field ℕ
steps t = limited 0 max_steps 1 (decimal t)

-- every character is a digit below n
abbrev pub digits_below : ℕ → List ℕ → Bool
digits_below n = list_all (λ b. ltb (digit b) n)

-- "schedule, 1–16 core digits"; "A schedule digit that names no core is a value fault; no digit, more than 16 or any other character is a form fault."
abbrev pub schedule : ℕ → List ℕ → Field (List ℕ)
schedule cores t =
    if within 1 max_digits (length t) && digits_below 10 t then if digits_below cores t then value (map digit t) else fault value_fault else fault form_fault

-- "words 0 to memory/4"
abbrev pub word_count : ℕ → List ℕ → Field ℕ
word_count memory t = limited 0 (memory / 4) 1 (decimal t)

-- a w line's word: "Entry and w have eight lower-case hexadecimal digits"
abbrev pub word : List ℕ → Field ℕ
word t = limited 0 max_word 1 (hexadecimal t)

-- what a line says and the lines after it, or the number of the refusal
pub data Step (A : Type 0) : Type 0 where
  step : A → List Line → Step A
  stop : ℕ → Step A

abbrev pub followed : {A : Type 0} → List Line → Field A → Step A
followed ls (value v) = step v ls
followed ls (fault f) = stop f

-- a line that is not there or has another key is ill-formed; f says what another's text means
abbrev pub read : {A : Type 0} → (List ℕ → Field A) → Entry → Step A
read f (entry t ls) = followed ls (f t)
read f missing = stop form_fault

-- what the first of the lines says
abbrev pub first : {A : Type 0} → List ℕ → (List ℕ → Field A) → List Line → Step A
first key f ls = read f (entry_of key ls)

-- a job: the schedule's core numbers are "repeated up to steps", the words stand in memory "from address 0"
pub record Job : Type 0 where
  pub cores : ℕ
  pub memory : ℕ
  pub entry : ℕ
  pub sr : ℕ
  pub steps : ℕ
  pub schedule : List ℕ
  pub words : List ℕ

-- what was read, or the refusal's number and its line's
pub data Verdict (A : Type 0) : Type 0 where
  good : A → Verdict A
  refused : ℕ → ℕ → Verdict A

-- "Lines count from 1; a missing one has the number it would have": the number of the next line, and the lines that are left
pub record Left : Type 0 where
  pub next : ℕ
  pub rest : List Line

-- a line's value is handed to k with what is left, its refusal has its number
abbrev pub onward : {A B : Type 0} → ℕ → Step A → (A → Left → Verdict B) → Verdict B
onward n (step v ls) k = k v (record { next = n + 1; rest = ls })
onward n (stop f) k = refused f n

-- the next line has that key and says v by f; k goes on with v and with what is left
abbrev pub line : {A B : Type 0} → String → (List ℕ → Field A) → Left → (A → Left → Verdict B) → Verdict B
line key f left k = onward left.next (first (ascii key) f left.rest) k

-- "then that many w lines"
unfoldable pub word_lines : {B : Type 0} → ℕ → Left → (List ℕ → Left → Verdict B) → Verdict B
word_lines zero left k = k [] left
word_lines (suc n) left k = line "w=" word left (λ w left. word_lines n left (λ ws. k (w ∷ ws)))

-- nothing may be "left over"
abbrev pub no_line_left : {B : Type 0} → List Line → ℕ → Verdict B → Verdict B
no_line_left [] n v = v
no_line_left (l ∷ ls) n v = refused form_fault n

-- the lines "in this order"; "a line sr follows entry"
unfoldable pub content : Left → Verdict Job
content left =
    line "cores=" cores left (λ cores left.
    line "memory=" memory left (λ memory left.
    line "entry=" entry_address left (λ entry left.
    line "sr=" status left (λ sr left.
    line "steps=" steps left (λ steps left.
    line "schedule=" (schedule cores) left (λ schedule left.
    line "words=" (word_count memory) left (λ count left.
    word_lines count left (λ words left.
    no_line_left left.rest left.next
    (good (record { cores = cores; memory = memory; entry = entry; sr = sr; steps = steps; schedule = schedule; words = words }))))))))))

-- "then the card's length, then its lines": what the lines of a text say by f
abbrev pub whole : {A : Type 0} → List ℕ → (Left → Verdict A) → Verdict A
whole text f = if leb (length text) max_card then f (record { next = 1; rest = lines text }) else refused form_fault 0

unfoldable pub card_says : List ℕ → Verdict Job
card_says card = whole card content
