-- One instruction of a core whose state is accepted: its effect is sound and lawful. Assumes nothing.
use mathlib.Core.Bool.{false}
use mathlib.Core.List.{List}
use mathlib.Core.Path.{◌≡◌, refl}
use Prim.Native.Nat.{ℕ, ◌<◌}
use native.Mathlib.Omega.{arith}
use lib.ListN.{length, get_or}
use Rattle.std.specs.Prelude.{Option, Some, None, is_some}
use Rattle.std.proofs.Common.{true≢false}
use Rattle.bits.specs.Word.{field}
use Rattle.isa.specs.InstructionSet.{decode}
use Rattle.isa.specs.Entry.{fields_of}
use Rattle.isa.specs.Register.{Register}
use Rattle.isa.specs.declared.entry.Fields.{Fields}
use Rattle.isa.proofs.Registers.{fields_registers}
use Rattle.memory.specs.Memory.{bytes, memory_word}
use Rattle.memory.proofs.Laws.{length_stored, stored_outside, other_word_kept}
use Rattle.effect.specs.State.{picsr_at}
use Rattle.effect.specs.Board.{Board}
use Rattle.effect.specs.declared.types.Effect.{Effect}
use Rattle.effect.specs.declared.types.Store.{Store}
use Rattle.commit.specs.Commit.{word_at, inputs, writes_memory, touched, word_of, stored_by, memory_after}
use Rattle.semantics.specs.Meaning.{effect_of}
use Rattle.lawful.specs.Inner.{Sound, SoundStore, stores_none, stores_some, LawfulInputs, Lawful}
use Rattle.lawful.specs.Accepted.{Accepted}
use Rattle.lawful.proofs.Sound.{meaning_sound}
use Rattle.lawful.proofs.Lawful.{meaning_lawful}
use Rattle.lawful.proofs.Jumps.{decoded_jump}

-- ---- what it reads

pub inputs_lawful : {board : Board} (s : List ℕ) (core : ℕ) (f : Fields) → Register f.d → Accepted board s core → LawfulInputs (inputs s core f)
unfolding inputs
inputs_lawful s core f h a =
    record {
      register = h;
      flow_lawful = a.flow_lawful;
      link_lawful = a.link_lawful;
      sr_lawful = a.sr_lawful;
      epcr_lawful = a.epcr_lawful;
      esr_lawful = a.esr_lawful;
    }

-- ---- its effect

module _ (board : Board) (mem s : List ℕ) (core : ℕ) where
  -- any entry's
  pub effect_sound : (entry : ℕ) → Sound board (length mem) (effect_of board mem s core entry)
  unfolding inputs
  effect_sound entry = meaning_sound board mem (inputs s core (fields_of entry)) (fields_registers entry).d (field entry 56 8)

  -- that of an entry that some word decodes to
  module _ (w : ℕ) where
    pub decoded_lawful : Accepted board s core → Lawful (word_at s core picsr_at) (effect_of board mem s core (decode w))
    unfolding inputs
    decoded_lawful a =
        let f = fields_of (decode w) in
        meaning_lawful (inputs s core f) (inputs_lawful s core f (fields_registers (decode w)).d a) board mem (field (decode w) 56 8) (decoded_jump w)

-- ---- what it leaves in memory

pub length_memory : (mem : List ℕ) (e : Effect) → length (memory_after mem e) ≡ length mem
unfolding memory_after
length_memory mem e = go e.store
  where
    go : (o : Option Store) → length (stored_by o mem) ≡ length mem
    go None = refl
    go (Some s) = length_stored (bytes s.width) mem s.address s.value

pub no_store_kept : (mem : List ℕ) (e : Effect) → writes_memory e ≡ false → memory_after mem e ≡ mem
unfolding memory_after
no_store_kept mem e h = go e.store h
  where
    go : (o : Option Store) → is_some o ≡ false → stored_by o mem ≡ mem
    go None h = refl
    go (Some s) h = absurd (true≢false h)

-- every word that it does not touch stays
pub other_words_kept : (board : Board) (mem : List ℕ) (e : Effect) → Sound board (length mem) e → (k : ℕ) → (k ≡ touched e → ⊥)
    → memory_word (memory_after mem e) k ≡ memory_word mem k
unfolding memory_after
other_words_kept board mem e sound k n = go sound.sound_store n
  where
    go : {o : Option Store} → SoundStore board (length mem) o → (k ≡ word_of o → ⊥) → memory_word (stored_by o mem) k ≡ memory_word mem k
    go stores_none n = refl
    go (stores_some {s} i) n = other_word_kept (bytes s.width) mem s.address s.value k i.in_word n

-- every byte below the limit stays
pub read_only_kept : (board : Board) (mem : List ℕ) (e : Effect) → Sound board (length mem) e → (j : ℕ) → j < board.limit
    → get_or (memory_after mem e) j 0 ≡ get_or mem j 0
unfolding memory_after
read_only_kept board mem e sound j h = go sound.sound_store
  where
    go : {o : Option Store} → SoundStore board (length mem) o → get_or (stored_by o mem) j 0 ≡ get_or mem j 0
    go stores_none = refl
    go (stores_some {s} i) = stored_outside (bytes s.width) mem s.address s.value j (λ p q. let a = i.above in omega arith)
