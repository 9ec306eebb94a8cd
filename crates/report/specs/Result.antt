-- The printed result of a run: document 01, "The run card", "prints counts, a line for each core, its registers other than 0 in rising order,
-- then `end`; a bad card prints `refused=9 line=3`".
use Rattle.std.specs.Prelude.{List, [], ◌∷◌, ◌++◌, ℕ, zero, suc, ◌/◌, eqb, length, get_or, take, drop, if◌then◌else◌}
use Prim.Native.String.{String}
use Rattle.effect.specs.State.{state_words, pc_at, delay_at, sr_at, mode_at}
use Rattle.steps.specs.declared.counts.Counts.{Counts}
use Rattle.text.specs.Ascii.{ascii}
use Rattle.print.specs.Digits.{decimal, hexadecimal}

-- a key, and its value: in decimal, or as a word of "eight lower-case hexadecimal digits"
abbrev pub keyed_decimal : String → ℕ → List ℕ
keyed_decimal key n = ascii key ++ decimal n

abbrev pub keyed_word : String → ℕ → List ℕ
keyed_word key word = ascii key ++ hexadecimal word

-- "each ended by one line feed"
abbrev pub line_feed : List ℕ
line_feed = ascii "\n"

-- "Both runs report three counts: executed .. raised .. reused"
unfoldable pub count_lines : Counts → List ℕ
count_lines counts =
    (keyed_decimal "executed=" counts.executed ++ line_feed) ++ (keyed_decimal "raised=" counts.raised ++ line_feed)
    ++ (keyed_decimal "reused=" counts.reused ++ line_feed)

-- "a line for each core": `core=0 mode=3 pc=0000000c delay=1 sr=00008001`
unfoldable pub core_line : ℕ → List ℕ → List ℕ
core_line core state =
    keyed_decimal "core=" core ++ keyed_decimal " mode=" (get_or state mode_at 0) ++ keyed_word " pc=" (get_or state pc_at 0)
    ++ keyed_decimal " delay=" (get_or state delay_at 0) ++ keyed_word " sr=" (get_or state sr_at 0) ++ line_feed

-- a register's line, `r3=00000005`; a register that is 0 has none
unfoldable pub register_line : ℕ → ℕ → List ℕ
register_line number value = if eqb value 0 then [] else keyed_decimal "r" number ++ keyed_word "=" value ++ line_feed

-- "its registers other than 0 in rising order": registers from a number on, by their values
unfoldable pub register_lines : ℕ → List ℕ → List ℕ
register_lines number [] = []
register_lines number (value ∷ values) = register_line number value ++ register_lines (suc number) values

-- "0–31: r0–r31."
abbrev pub registers : ℕ
registers = 32

-- a core's line, and its registers
unfoldable pub core_text : ℕ → List ℕ → List ℕ
core_text core state = core_line core state ++ register_lines 0 (take registers state)

-- n cores from a number on; their states follow each other
unfoldable pub core_texts : ℕ → ℕ → List ℕ → List ℕ
core_texts core zero states = []
core_texts core (suc n) states = core_text core states ++ core_texts (suc core) n (drop state_words states)

-- there are as many cores as whole states
abbrev pub cores : List ℕ → ℕ
cores states = length states / state_words

-- the whole result: "then `end`"
unfoldable pub result_text : Counts → List ℕ → List ℕ
result_text counts states = count_lines counts ++ core_texts 0 (cores states) states ++ ascii "end\n"

-- "a bad card prints `refused=9 line=3`"
unfoldable pub refusal_text : ℕ → ℕ → List ℕ
refusal_text number line = keyed_decimal "refused=" number ++ keyed_decimal " line=" line ++ line_feed
