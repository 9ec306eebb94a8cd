-- What an instruction reads of its core's state, and what its effect leaves in memory and in every state: document 01, "What is lent" and "One
-- instruction"; document 02, notes 2, 4 and 6. The states are one list, state_words for each core.
use Rattle.std.specs.Prelude.{Bool, ◌&&◌, List, Option, Some, None, ℕ, zero, suc, ◌+◌, ◌*◌, ◌/◌, eqb, length, get_or, set, Ok, Err, is_some, if◌then◌else◌}
use Rattle.isa.specs.declared.entry.Fields.{Fields}
use Rattle.isa.specs.Vectors.{vector}
use Rattle.isa.specs.declared.vectors.Cause.TheVariants.{Bus}
use Rattle.memory.specs.Memory.{bytes, stored}
use Rattle.effect.specs.State.{state_words, pc_at, delay_at, target_at, sr_at, epcr_at, eear_at, esr_at, link_at, link_address_at, mode_at, machi_at, maclo_at, picmr_at, picsr_at}
use Rattle.effect.specs.Effect.{faults, Outcome}
use Rattle.effect.specs.declared.types.Inputs.{Inputs}
use Rattle.effect.specs.declared.types.Effect.{Effect}
use Rattle.effect.specs.declared.types.Store.{Store}
use Rattle.product.specs.declared.Accumulator.{Accumulator}

-- the word at a place of a core's state, and the states with v there
abbrev pub word_at : List ℕ → ℕ → ℕ → ℕ
word_at s core place = get_or s (core * state_words + place) 0

abbrev pub put : List ℕ → ℕ → ℕ → ℕ → List ℕ
put s core place v = set s (core * state_words + place) v

abbrev pub core_count : List ℕ → ℕ
core_count s = length s / state_words

-- what an instruction with the fields f reads, on a core whose state has these words at its places
abbrev pub reads : ℕ → (ℕ → ℕ) → Fields → Inputs
reads core word f = record {
  core = core;
  d = f.d;
  a = word f.a;
  b = word f.b;
  immediate = f.immediate;
  flow = record { pc = word pc_at; delay = word delay_at; target = word target_at };
  sr = word sr_at;
  epcr = word epcr_at;
  eear = word eear_at;
  esr = word esr_at;
  link = record { held = word link_at; address = word link_address_at };
  accumulator = record { high = word machi_at; low = word maclo_at };
  picmr = word picmr_at;
  picsr = word picsr_at;
}

unfoldable pub inputs : List ℕ → ℕ → Fields → Inputs
inputs s core f = reads core (word_at s core) f

-- "Writes to r0 are dropped."
unfoldable pub put_value : List ℕ → ℕ → Effect → List ℕ
put_value s core e = if eqb e.place 0 then s else put s core e.place e.value

unfoldable pub put_flow : List ℕ → ℕ → Effect → List ℕ
put_flow s core e = put (put (put s core pc_at e.flow.pc) core delay_at e.flow.delay) core target_at e.flow.target

unfoldable pub put_status : List ℕ → ℕ → Effect → List ℕ
put_status s core e =
    put (put (put (put s core sr_at e.sr) core link_at e.link.held) core link_address_at e.link.address) core mode_at e.mode

-- MACHI and MACLO, if the instruction accumulates or clears them
unfoldable pub put_accumulated : Option Accumulator → List ℕ → ℕ → List ℕ
put_accumulated None s core = s
put_accumulated (Some m) s core = put (put s core machi_at m.high) core maclo_at m.low

-- an exception goes to its vector and leaves EPCR, EEAR and ESR too. Document 02, note 6: "whatever list passed loading, the step rules are
-- read with it"
unfoldable pub put_exception : List ℕ → Outcome → List ℕ → ℕ → List ℕ
put_exception vectors (Ok u) s core = s
put_exception vectors (Err x) s core =
    put (put (put (put s core pc_at (vector vectors x.cause)) core epcr_at x.epcr) core eear_at x.eear) core esr_at x.esr

-- "An exception adds 1 to raised."
abbrev pub raised_by : Outcome → ℕ
raised_by (Ok u) = 0
raised_by (Err x) = 1

-- the states after a core's effect, before links are cleared
unfoldable pub own_state : List ℕ → List ℕ → ℕ → Effect → List ℕ
own_state vectors s core e =
    put_exception vectors e.outcome (put_accumulated e.accumulated (put_status (put_flow (put_value s core e) core e) core e) core) core

-- "Any store clears every core's link to the word it touches. A cleared link has link address 0." w is the word's address
unfoldable pub clear_link : List ℕ → ℕ → ℕ → List ℕ
clear_link s core w =
    if eqb (word_at s core link_at) 1 && eqb (word_at s core link_address_at) w then put (put s core link_at 0) core link_address_at 0 else s

unfoldable pub clear_links : ℕ → List ℕ → ℕ → List ℕ
clear_links zero s w = s
clear_links (suc n) s w = clear_link (clear_links n s w) n w

-- an effect stores if it has a store; the word that it touches
abbrev pub writes_memory : Effect → Bool
writes_memory e = is_some e.store

abbrev pub word_of : Option Store → ℕ
word_of None = 0
word_of (Some s) = s.address / 4

abbrev pub touched : Effect → ℕ
touched e = word_of e.store

unfoldable pub states_after : List ℕ → List ℕ → ℕ → Effect → List ℕ
states_after vectors s core e =
    if writes_memory e then clear_links (core_count s) (own_state vectors s core e) (touched e * 4) else
    own_state vectors s core e

abbrev pub stored_by : Option Store → List ℕ → List ℕ
stored_by None mem = mem
stored_by (Some s) mem = stored (bytes s.width) mem s.address s.value

unfoldable pub memory_after : List ℕ → Effect → List ℕ
memory_after mem e = stored_by e.store mem

-- an exception in place of an instruction has no fields
abbrev pub no_fields : Fields
no_fields = record { d = 0; a = 0; b = 0; immediate = 0 }

-- "A fetch outside memory is a bus error"
abbrev pub fetch_fault : List ℕ → ℕ → Effect
fetch_fault s core = faults (inputs s core no_fields) Bus (word_at s core pc_at)
