-- Cards without the line sr, as they were taken until note 7 of document 02, for what it promises of them: "Cards taken until now lack the line and so meet 9 at
-- line 4; with 00008001 put in, the printed run equals the earlier one." Nothing else uses this.
use Rattle.std.specs.Prelude.{ℕ, zero, suc, List, [], ◌∷◌, ◌++◌, eqb, leb, if◌then◌else◌}
use Rattle.text.specs.Ascii.{ascii}
use Rattle.card.specs.Card.{cores, memory, entry_address, steps, schedule, word_count, Left, line, word_lines, no_line_left, whole, Job, Verdict, good, refused}

-- "Readers of old cards must know that SR begins as 00008001."
abbrev pub earlier_sr : ℕ
earlier_sr = 0x8001

-- the lines without sr
unfoldable pub earlier_content : Left → Verdict Job
earlier_content left =
    line "cores=" cores left (λ cores left.
    line "memory=" memory left (λ memory left.
    line "entry=" entry_address left (λ entry left.
    line "steps=" steps left (λ steps left.
    line "schedule=" (schedule cores) left (λ schedule left.
    line "words=" (word_count memory) left (λ count left.
    word_lines count left (λ words left.
    no_line_left left.rest left.next
    (good (record { cores = cores; memory = memory; entry = entry; sr = earlier_sr; steps = steps; schedule = schedule; words = words })))))))))

unfoldable pub earlier_says : List ℕ → Verdict Job
earlier_says card = whole card earlier_content

-- a text put in after the first n line feeds of another; nowhere, if it has fewer
unfoldable pub put_in : ℕ → List ℕ → List ℕ → List ℕ
put_in zero text s = text ++ s
put_in (suc n) text [] = []
put_in (suc n) text (b ∷ s) = b ∷ (if eqb b 10 then put_in n text s else put_in (suc n) text s)

-- "with 00008001 put in": "a line sr follows entry"
abbrev pub with_sr : List ℕ → List ℕ
with_sr card = put_in 3 (ascii "sr=00008001\n") card

-- what a card with the line says, by what it said without: a line after the third has the next number
abbrev pub renumbered : {A : Type 0} → Verdict A → Verdict A
renumbered (good j) = good j
renumbered (refused f n) = refused f (if leb n 3 then n else suc n)
