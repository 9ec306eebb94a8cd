-- A core's state, document 01's sheet: "What is lent"; document 02, notes 2, 4 and 8.
use Rattle.std.specs.Prelude.{Bool, true, ◌&&◌, ◌||◌, not, List, [], ◌∷◌, ◌++◌, take, drop, ℕ, ◌*◌, ◌%◌, eqb, leb, ltb}
use Rattle.arith.specs.Status.{allowed}
use Rattle.effect.specs.Board.{Board}

-- "32-bit words for each of 1 to 4 cores. 0–31: r0–r31. 32: PC, the next instruction's address. 33: delay, 1 if that instruction is in a
-- delay slot, else 0. 34: target after the slot. 35: SR. 36: EPCR. 37: EEAR. 38: ESR. 39: link, 0 or 1. 40: link address. 41: mode, 0 halted
-- or 3 running." Document 02, note 2: "MACHI then MACLO"; note 4: "Each sheet ends with PICMR then PICSR, 46 words in all".
abbrev pub state_words : ℕ
state_words = 46

abbrev pub pc_at : ℕ
pc_at = 32

abbrev pub delay_at : ℕ
delay_at = 33

abbrev pub target_at : ℕ
target_at = 34

abbrev pub sr_at : ℕ
sr_at = 35

abbrev pub epcr_at : ℕ
epcr_at = 36

abbrev pub eear_at : ℕ
eear_at = 37

abbrev pub esr_at : ℕ
esr_at = 38

abbrev pub link_at : ℕ
link_at = 39

abbrev pub link_address_at : ℕ
link_address_at = 40

abbrev pub mode_at : ℕ
mode_at = 41

abbrev pub machi_at : ℕ
machi_at = 42

abbrev pub maclo_at : ℕ
maclo_at = 43

abbrev pub picmr_at : ℕ
picmr_at = 44

abbrev pub picsr_at : ℕ
picsr_at = 45

-- a core's words among those of all, and all with `own` in their place
abbrev pub own_words : List ℕ → ℕ → List ℕ
own_words s core = take state_words (drop (core * state_words) s)

abbrev pub with_own_words : List ℕ → ℕ → List ℕ → List ℕ
with_own_words s core own = take (core * state_words) s ++ (own ++ drop state_words (drop (core * state_words) s))

abbrev pub halted : ℕ
halted = 0

-- document 02, note 8: "ParaNut mode 1"; no link of l.lwa is meant (linked/specs/Linked)
abbrev pub linked : ℕ
linked = 1

abbrev pub running : ℕ
running = 3

-- ---- the rules on a state; one that breaks a rule is turned back by 3

-- every test of a list passes
abbrev pub all : List Bool → Bool
all [] = true
all (b ∷ l) = b && all l

abbrev pub multiple : ℕ → Bool
multiple x = eqb (x % 4) 0

-- "41: mode, 0 halted or 3 running." Document 02, note 8: "Mode 1 is allowed for cores 1 to 3."
abbrev pub is_mode : ℕ → ℕ → Bool
is_mode core mode = eqb mode halted || (eqb mode running || (eqb mode linked && ltb 0 core))

-- the rules on the state of a core of a board, g being its word at each place, in the paper's order (the same on every board); MACHI, MACLO and PICSR are
-- free
abbrev pub rules : Board → ℕ → (ℕ → ℕ) → List Bool
rules board core g =
    leb (g delay_at) 1 ∷  -- "33: delay, 1 if that instruction is in a delay slot, else 0."
    leb (g link_at) 1 ∷  -- "39: link, 0 or 1."
    is_mode core (g mode_at) ∷  -- "41: mode, 0 halted or 3 running." Or 1, of cores 1 to 3
    eqb (g 0) 0 ∷  -- "r0 is 0;
    multiple (g pc_at) ∷  -- PC,
    multiple (g target_at) ∷  -- target,
    multiple (g epcr_at) ∷  -- EPCR
    multiple (g link_address_at) ∷  -- and link address are multiples of 4;
    (not (eqb (g delay_at) 0) || eqb (g target_at) 0) ∷  -- target is 0 if delay is 0,
    (not (eqb (g link_at) 0) || eqb (g link_address_at) 0) ∷  -- link address 0 if link is 0.
    eqb (allowed (g sr_at)) (g sr_at) ∷  -- SR
    eqb (allowed (g esr_at)) (g esr_at) ∷  -- and ESR may have bits SM 0, .. DSX 13; bit 15 is 1, all others 0."
    eqb (g picmr_at % 4) 3 ∷  -- document 02, note 4: "a PICMR without its low two bits meets 3"
    []
