-- Linked cores: document 02, note 8, "Each completed fetch of core 0 is executed by core 0 and then by every linked core in rising order, each on its own
-- registers; a linked core's own entry does nothing." What an entry does to its own core stands in steps/specs/Plain and Fast, where a core in mode 1 is not
-- running. What the linked cores do then stands here: the same instruction (semantics/specs/Meaning) on the inputs below, committed as any other but for PC, delay,
-- target and mode.
use Rattle.std.specs.Prelude.{ℕ, zero, suc, Bool, ◌||◌, List, ◌==◌, nat_eq, if◌then◌else◌}
use Rattle.isa.specs.Entry.{kind_of_entry, fields_of}
use Rattle.effect.specs.State.{pc_at, delay_at, target_at, mode_at, halted, linked}
use Rattle.effect.specs.Board.{Board}
use Rattle.effect.specs.declared.types.Inputs.{Inputs}
use Rattle.effect.specs.declared.types.Flow.{Flow}
use Rattle.effect.specs.declared.types.Effect.{Effect}
use Rattle.commit.specs.Commit.{word_at, put, inputs, raised_by, states_after, memory_after}
use Rattle.semantics.specs.Meaning.{meaning}
use Rattle.steps.specs.Fast.{emptied}
use Rattle.linked.specs.declared.follow.Lead.{Lead}

abbrev pub is_linked : List ℕ → ℕ → Bool
is_linked s core = word_at s core mode_at == linked

-- a core's PC, delay and target, and the states with others in their place
abbrev pub flow_at : List ℕ → ℕ → Flow
flow_at s core = record { pc = word_at s core pc_at; delay = word_at s core delay_at; target = word_at s core target_at }

unfoldable pub with_flow : List ℕ → ℕ → Flow → List ℕ
with_flow s core f = put (put (put s core pc_at f.pc) core delay_at f.delay) core target_at f.target

-- ---- what a linked core reads and does. The lead has the form that core 0 fetched, also where that word has been stored to since, and core 0's flow (PC, delay,
-- target) before and after.

abbrev pub lead_kind : Lead → ℕ
lead_kind lead = kind_of_entry lead.form

-- l.jr and l.jalr
abbrev pub jumps_to_register : ℕ → Bool
jumps_to_register k = k == 14 || k == 15

-- l.rfe
abbrev pub is_return : ℕ → Bool
is_return k = k == 13

-- x is what its core would read by itself
unfoldable pub follower_inputs : Lead → Inputs → Inputs
follower_inputs lead x = record {
  core = x.core;
  d = x.d;
  a = x.a;
  -- core 0's rB, which is its target then and a multiple of 4, since core 0 completed: "register targets included (a linked core's own target is not tested)"
  b = if jumps_to_register (lead_kind lead) then lead.after.target else x.b;
  immediate = x.immediate;
  flow = lead.before;  -- "Linked cores execute with core 0's PC and delay"; so "jal and jalr put core 0's link value in r9"
  sr = x.sr;
  epcr = x.epcr;
  eear = x.eear;
  -- l.rfe puts ESR in SR; given SR for it, it leaves SR: "At l.rfe linked cores take these three" (PC, delay and target) "and nothing else"
  esr = if is_return (lead_kind lead) then x.sr else x.esr;
  link = x.link;
  accumulator = x.accumulator;
  picmr = x.picmr;
  picsr = x.picsr;
}

-- what the form does to a core of the states s
unfoldable pub follower_effect : Board → Lead → List ℕ → List ℕ → ℕ → Effect
follower_effect board lead mem s core = meaning board mem (lead_kind lead) (follower_inputs lead (inputs s core (fields_of lead.form)))

abbrev pub completes : Effect → Bool
completes e = raised_by e.outcome == 0

-- ---- what they leave

-- memory, the states, and for each memory word its entry in the decode cache or its mark in the history; in the plain run none
pub record Shared : Type 0 where
  pub memory : List ℕ
  pub states : List ℕ
  pub entries : List ℕ

-- "and take its PC, delay and target afterwards, conditions and register targets included": s is what the effect e left, and its own F decides nothing at l.bf and
-- l.bnf. The core stays linked, except that "l.nop 1 halts core 0 and all linked cores."
unfoldable pub taking : Lead → List ℕ → ℕ → Effect → List ℕ
taking lead s core e = put (with_flow s core lead.after) core mode_at (if nat_eq e.mode halted then halted else linked)

-- what the core makes of x, in which core 0 and lower cores have left what they did: a link that their stores cleared stays cleared
unfoldable pub followed : Board → Lead → Shared → ℕ → Shared
followed board lead x core =
    let e = follower_effect board lead x.memory x.states core in
    if completes e then record {
      memory = memory_after x.memory e;
      states = taking lead (states_after board.vectors x.states core e) core e;
      entries = emptied e x.entries;  -- "linked stores empty table entries as any store does"
    } else record {  -- "A linked core that would raise goes to mode 0, uncounted in raised, and writes nothing else that step."
      memory = x.memory;
      states = put x.states core mode_at halted;
      entries = x.entries;
    }

-- "every linked core in rising order": those of cores 1 to n
unfoldable pub followers : Board → Lead → ℕ → Shared → Shared
followers board lead zero x = x
followers board lead (suc n) x =
    let y = followers board lead n x in
    if is_linked y.states (suc n) then followed board lead y (suc n) else y
