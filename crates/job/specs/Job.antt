-- What the card reader answers and leaves, and what a good job starts from: document 01, "The run card", "Turned back" and "What is lent".
use Rattle.std.specs.Prelude.{ℕ, zero, suc, ◌+◌, ◌%◌, List, [], ◌∷◌, ◌++◌, length, get_or, set, replicate, eqb, if◌then◌else◌}
use Rattle.std.proofs.lemmas.List.Edits.{sets}
use Rattle.memory.specs.Memory.{stored}
use Rattle.effect.specs.State.{state_words, pc_at, sr_at, esr_at, mode_at, picmr_at, running}
use Rattle.card.specs.Card.{Job, Verdict, good, refused, image_fault, card_says}

-- "a lent image of 16,384"
abbrev pub image_length : ℕ
image_length = 16384

-- "The card reader tests 1, then the card's length, then its lines"
unfoldable pub reading : List ℕ → List ℕ → Verdict Job
reading card image = if eqb (length image) image_length then card_says card else refused image_fault 0

-- words one after another from an address on, as a store leaves them
unfoldable pub filled : List ℕ → ℕ → List ℕ → List ℕ
filled memory at [] = memory
filled memory at (w ∷ ws) = filled (stored 4 memory at w) (at + 4) ws

-- "It zeroes and fills (w words from address 0) the first memory bytes"
abbrev pub memory_of : Job → List ℕ
memory_of j = filled (replicate j.memory 0) 0 j.words

-- ".. of a lent image of 16,384, leaving the rest, only after the whole card is good."
unfoldable pub image_after : Verdict Job → List ℕ → List ℕ
image_after (good j) image = sets image 0 (memory_of j)
image_after (refused f n) image = image

-- "core digits repeated up to steps": the core of each of the first n steps
unfoldable pub entries : List ℕ → ℕ → List ℕ
entries schedule zero = []
entries schedule (suc n) = entries schedule n ++ (get_or schedule (n % length schedule) 0 ∷ [])

abbrev pub reset_esr : ℕ
reset_esr = 0x8001

abbrev pub reset_picmr : ℕ
reset_picmr = 3

-- "Reset: PC the entry, .. ESR 00008001, mode 3, the rest 0." Document 02, note 4: "PICMR 3 at reset"; note 7: the line sr "sets SR of every core"
abbrev pub reset_state : ℕ → ℕ → List ℕ
reset_state entry sr =
    set (set (set (set (set (replicate state_words 0) pc_at entry) sr_at sr) esr_at reset_esr) mode_at running) picmr_at reset_picmr

-- the states of n cores, one after the other
unfoldable pub reset_states : ℕ → ℕ → ℕ → List ℕ
reset_states entry sr zero = []
reset_states entry sr (suc n) = reset_states entry sr n ++ reset_state entry sr
