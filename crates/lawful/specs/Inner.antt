-- Helper of the laws. The rules of a state (effect/specs/State.antt) as facts on its parts, what of them an instruction reads and its effect keeps, and
-- where an effect may write.
use Rattle.std.specs.Prelude.{List, ◌≡◌, ℕ, ◌+◌, ◌%◌, ◌<◌, ◌≤◌, Option, Some, None, Ok, Err}
use Rattle.isa.specs.Register.{Register}
use Rattle.isa.specs.Vectors.{vector}
use Rattle.isa.specs.declared.vectors.Cause.{Cause}
use Rattle.arith.specs.Status.{allowed}
use Rattle.memory.specs.Memory.{bytes}
use Rattle.effect.specs.State.{state_words, pc_at, delay_at, target_at, sr_at, epcr_at, eear_at, esr_at, link_at, link_address_at, mode_at, machi_at, maclo_at, picmr_at, picsr_at, halted, linked, running}
use Rattle.effect.specs.Effect.{Outcome}
use Rattle.effect.specs.declared.types.Inputs.{Inputs}
use Rattle.effect.specs.Board.{Board}
use Rattle.effect.specs.declared.types.Flow.{Flow}
use Rattle.effect.specs.declared.types.Link.{Link}
use Rattle.effect.specs.declared.types.Exception.{Exception}
use Rattle.effect.specs.declared.types.Store.{Store}
use Rattle.effect.specs.declared.types.Effect.{Effect}

-- "SR and ESR may have bits SM 0, .. DSX 13; bit 15 is 1, all others 0."
abbrev pub Status : ℕ → Type 0
Status x = allowed x ≡ x

-- "PC, target, EPCR and link address are multiples of 4"
abbrev pub Multiple : ℕ → Type 0
Multiple x = x % 4 ≡ 0

-- so is every vector of a list: document 02, note 6, "Addresses are multiples of 4"
abbrev pub LawfulVectors : List ℕ → Type 0
LawfulVectors vectors = (cause : Cause) → Multiple (vector vectors cause)

-- "33: delay, 1 if that instruction is in a delay slot, else 0." "target is 0 if delay is 0"
pub record LawfulFlow (f : Flow) : Type 0 where
  pub delay_bit : f.delay ≤ 1
  pub pc_multiple : Multiple f.pc
  pub target_multiple : Multiple f.target
  pub no_target : f.delay ≡ 0 → f.target ≡ 0

-- "39: link, 0 or 1." "link address 0 if link is 0"
pub record LawfulLink (l : Link) : Type 0 where
  pub held_bit : l.held ≤ 1
  pub address_multiple : Multiple l.address
  pub no_address : l.held ≡ 0 → l.address ≡ 0

-- document 02, note 4, of PICMR: "its bits 0 and 1 always 1"
abbrev pub Mask : ℕ → Type 0
Mask x = x % 4 ≡ 3

-- the mode that an instruction leaves its core in: "41: mode, 0 halted or 3 running."
pub data OwnMode : ℕ → Type 0 where
  is_halted : OwnMode halted
  is_running_lem : OwnMode running

-- a core's mode: one of these, or document 02, note 8: "Mode 1 is allowed for cores 1 to 3."
pub data Mode (core : ℕ) : ℕ → Type 0 where
  own : {m : ℕ} → OwnMode m → Mode core m
  is_linked_lem : 0 < core → Mode core linked

-- the whole state of a core of a board, g being its word at each place. "r0 is 0"
pub record LawfulState (board : Board) (core : ℕ) (g : ℕ → ℕ) : Type 0 where
  pub zero_register : g 0 ≡ 0
  pub flow_lawful : LawfulFlow (record { pc = g pc_at; delay = g delay_at; target = g target_at })
  pub link_lawful : LawfulLink (record { held = g link_at; address = g link_address_at })
  pub sr_lawful : Status (g sr_at)
  pub epcr_lawful : Multiple (g epcr_at)
  pub esr_lawful : Status (g esr_at)
  pub mode_lawful : Mode core (g mode_at)
  pub mask_lawful : Mask (g picmr_at)

-- what an instruction reads obeys the rules, and its destination is a register
pub record LawfulInputs (x : Inputs) : Type 0 where
  pub register : Register x.d
  pub flow_lawful : LawfulFlow x.flow
  pub link_lawful : LawfulLink x.link
  pub sr_lawful : Status x.sr
  pub epcr_lawful : Multiple x.epcr
  pub esr_lawful : Status x.esr

-- the word that an effect writes at a place: a register, EPCR, EEAR, ESR, PICMR; MACHI or MACLO, which are free; or PICSR, which was picsr: "a write to it
-- keeps the bits set in it and in the value" (document 02, note 4), so that it never grows
pub data LawfulWord (picsr : ℕ) : ℕ → ℕ → Type 0 where
  to_register : {place v : ℕ} → Register place → LawfulWord picsr place v
  to_epcr : {v : ℕ} → Multiple v → LawfulWord picsr epcr_at v
  to_eear : {v : ℕ} → LawfulWord picsr eear_at v
  to_esr : {v : ℕ} → Status v → LawfulWord picsr esr_at v
  to_machi : {v : ℕ} → LawfulWord picsr machi_at v
  to_maclo : {v : ℕ} → LawfulWord picsr maclo_at v
  to_picmr : {v : ℕ} → Mask v → LawfulWord picsr picmr_at v
  to_picsr : {v : ℕ} → v ≤ picsr → LawfulWord picsr picsr_at v

pub data LawfulOutcome : Outcome → Type 0 where
  completes : LawfulOutcome (Ok tt)
  raised : {x : Exception} → Multiple x.epcr → Status x.esr → LawfulOutcome (Err x)

-- all that an effect on a state with that PICSR names obeys the rules (the vector of an exception, where PC goes at the commit, is the list's)
pub record Lawful (picsr : ℕ) (e : Effect) : Type 0 where
  pub word_lawful : LawfulWord picsr e.place e.value
  pub flow_lawful : LawfulFlow e.flow
  pub link_lawful : LawfulLink e.link
  pub sr_lawful : Status e.sr
  pub mode_lawful : OwnMode e.mode
  pub outcome_lawful : LawfulOutcome e.outcome

-- ---- what an effect may write to, whatever its core's state: a word of that state, and bytes in one word of memory

-- bytes in one word of a memory of len bytes, none below the board's limit
pub record InWord (board : Board) (len : ℕ) (s : Store) : Type 0 where
  pub above : board.limit ≤ s.address
  pub inside : s.address + bytes s.width ≤ len
  pub in_word : s.address % 4 + bytes s.width ≤ 4

pub data SoundStore (board : Board) (len : ℕ) : Option Store → Type 0 where
  stores_none : SoundStore board len None
  stores_some : {s : Store} → InWord board len s → SoundStore board len (Some s)

-- len is the length of memory
pub record Sound (board : Board) (len : ℕ) (e : Effect) : Type 0 where
  pub place_lt : e.place < state_words
  pub sound_store : SoundStore board len e.store
