-- What linked cores leave: lengths, accepted states, entries that are their words' forms, and memory below the limit as it was. Assumes nothing.
use Rattle.std.proofs.Common.{◌≡◌, ℕ, zero, suc, ◌<◌, ◌≤◌, Bool, true, false, T, eqb, List, [], ◌∷◌, length, get_or, refl, ◌∙◌, le_refl, arith, length-set}
use Rattle.std.specs.Prelude.{if◌then◌else◌}
use Rattle.bits.proofs.Cases.{if_both, by_equality}
use Rattle.isa.specs.Entry.{fields_of}
use Rattle.isa.specs.Groups.{IsBranch}
use Rattle.isa.proofs.Registers.{fields_registers}
use Rattle.effect.specs.State.{pc_at, delay_at, target_at, mode_at, picsr_at, halted}
use Rattle.effect.specs.Board.{Board}
use Rattle.effect.specs.declared.types.Flow.{Flow}
use Rattle.effect.specs.declared.types.Effect.{Effect}
use Rattle.commit.specs.Commit.{word_at, put, core_count, inputs, writes_memory, states_after}
use Rattle.lawful.specs.Inner.{Status, Multiple, LawfulVectors, LawfulFlow, is_halted, Mode, own, is_linked_lem, LawfulState, Lawful, Sound}
use Rattle.lawful.specs.Accepted.{Accepted, AllAccepted}
use Rattle.lawful.proofs.Commit.{puts, seen, inside, length_puts, puts_seen, puts_other, lawful_same}
use Rattle.lawful.proofs.Sound.{meaning_sound}
use Rattle.lawful.proofs.Lawful.{meaning_lawful}
use Rattle.lawful.proofs.Jumps.{decoded_jump}
use Rattle.lawful.proofs.States.{length_states, states_accepted}
use Rattle.lawful.proofs.Instruction.{inputs_lawful, length_memory, read_only_kept}
use Rattle.steps.specs.Fast.{emptied}
use Rattle.steps.specs.Inner.{Right}
use Rattle.steps.proofs.Agree.{right_emptied}
use Rattle.linked.specs.Linked.{is_linked, with_flow, lead_kind, is_return, follower_inputs, follower_effect, completes, Shared, taking, followed, followers}
use Rattle.linked.specs.Inner.{Leads}
use Rattle.linked.specs.declared.follow.Lead.{Lead}

-- ---- words put into one core's state keep states accepted

pub length_flow : (s : List ℕ) (core : ℕ) (f : Flow) → length (with_flow s core f) ≡ length s
unfolding with_flow
length_flow s core f = simp length-set

module _ {board : Board} (s : List ℕ) (core : ℕ) (h : core < core_count s) (a : AllAccepted board s) where
  puts_accepted : (l : List (ℕ × ℕ)) → T (inside l) → LawfulState board core (λ j. seen l j (word_at s core j)) → AllAccepted board (puts l s core)
  puts_accepted l t w c i =
      let n : length (puts l s core) ≡ length s = length_puts l s core in
      by_equality c core
      (λ q. rw q (lawful_same (λ j. seen l j (word_at s core j)) (word_at (puts l s core) core) (λ j g _. puts_seen l s core j (omega arith)) w))
      (λ q. lawful_same (word_at s c) (word_at (puts l s core) c) (λ j g _. puts_other l s core c j t q g) (a c (omega arith)))

  pub flow_accepted : (f : Flow) → LawfulFlow f → AllAccepted board (with_flow s core f)
  unfolding with_flow
  flow_accepted f l =
      let o = a core h in
      puts_accepted ((pc_at, f.pc) ∷ (delay_at, f.delay) ∷ (target_at, f.target) ∷ []) tt
      record {
        zero_register = o.zero_register;
        flow_lawful = l;
        link_lawful = o.link_lawful;
        sr_lawful = o.sr_lawful;
        epcr_lawful = o.epcr_lawful;
        esr_lawful = o.esr_lawful;
        mode_lawful = o.mode_lawful;
        mask_lawful = o.mask_lawful;
      }

  pub mode_accepted : {m : ℕ} → Mode core m → AllAccepted board (put s core mode_at m)
  mode_accepted {m} l =
      let o = a core h in
      puts_accepted ((mode_at, m) ∷ []) tt
      record {
        zero_register = o.zero_register;
        flow_lawful = o.flow_lawful;
        link_lawful = o.link_lawful;
        sr_lawful = o.sr_lawful;
        epcr_lawful = o.epcr_lawful;
        esr_lawful = o.esr_lawful;
        mode_lawful = l;
        mask_lawful = o.mask_lawful;
      }

-- ---- entries under a function that goes with every store

pub length_emptied : (e : Effect) (l : List ℕ) → length (emptied e l) ≡ length l
unfolding emptied
length_emptied e l = if_both (λ (m : List ℕ). length m ≡ length l) (writes_memory e) (simp length-set) refl

abbrev pub mapped : (List ℕ → List ℕ) → Shared → Shared
mapped f x = record { memory = x.memory; states = x.states; entries = f x.entries }

pub mapped_if : (f : List ℕ → List ℕ) (b : Bool) (x y : Shared) → (if b then mapped f x else mapped f y) ≡ mapped f (if b then x else y)
mapped_if f true x y = refl
mapped_if f false x y = refl

-- memory, states and entries are as long as they were
pub record Sized (x y : Shared) : Type 0 where
  pub memory_length : length y.memory ≡ length x.memory
  pub states_length : length y.states ≡ length x.states
  pub entries_length : length y.entries ≡ length x.entries

module _ (board : Board) (lead : Lead) where
  -- ---- what a linked core does

  module _ (mem s : List ℕ) (core : ℕ) where
    pub follower_sound : Sound board (length mem) (follower_effect board lead mem s core)
    unfolding follower_effect follower_inputs inputs
    follower_sound = meaning_sound board mem (follower_inputs lead (inputs s core (fields_of lead.form))) (fields_registers lead.form).d (lead_kind lead)

    pub follower_lawful : Accepted board s core → Leads lead → Lawful (word_at s core picsr_at) (follower_effect board lead mem s core)
    unfolding follower_effect follower_inputs inputs
    follower_lawful a l =
        let f = l.is_form in
        let x = inputs s core (fields_of lead.form) in
        let i = inputs_lawful s core (fields_of lead.form) (fields_registers lead.form).d a in
        let j : IsBranch (lead_kind lead) → Multiple (fields_of lead.form).immediate = rw f.decodes (decoded_jump f.word) in
        meaning_lawful (follower_inputs lead x)
        (record {
          register = i.register;
          flow_lawful = l.before_lawful;
          link_lawful = i.link_lawful;
          sr_lawful = i.sr_lawful;
          epcr_lawful = i.epcr_lawful;
          esr_lawful = if_both Status (is_return (lead_kind lead)) i.sr_lawful i.esr_lawful;
        })
        board mem (lead_kind lead) j

  -- ---- what it leaves

  module _ (x : Shared) (core : ℕ) where
    abbrev effect : Effect
    effect = follower_effect board lead x.memory x.states core

    pub length_followed : Sized x (followed board lead x core)
    unfolding followed taking with_flow
    length_followed =
        if_both (Sized x) (completes effect)
        (record {
          memory_length = length_memory x.memory effect;
          states_length = simp length-set (length_states board.vectors x.states core effect);
          entries_length = length_emptied effect x.entries;
        })
        (record { memory_length = refl; states_length = simp length-set; entries_length = refl })

    followed_map : (f : List ℕ → List ℕ) → ((e : Effect) (l : List ℕ) → f (emptied e l) ≡ emptied e (f l)) → followed board lead (mapped f x) core ≡ mapped f (followed board lead x core)
    unfolding followed
    followed_map f q = rw (← q effect x.entries) (mapped_if f (completes effect) _ _)

    pub followed_right : Right board x.entries x.memory → Right board (followed board lead x core).entries (followed board lead x core).memory
    unfolding followed
    followed_right r =
        if_both (λ (y : Shared). Right board y.entries y.memory) (completes effect)
        (right_emptied board x.memory x.entries effect (follower_sound x.memory x.states core) r) r

    followed_keeps : (j : ℕ) → j < board.limit → get_or (followed board lead x core).memory j 0 ≡ get_or x.memory j 0
    unfolding followed
    followed_keeps j h =
        if_both (λ (y : Shared). get_or y.memory j 0 ≡ get_or x.memory j 0) (completes effect)
        (read_only_kept board x.memory effect (follower_sound x.memory x.states core) j h) refl

    pub followed_accepted : LawfulVectors board.vectors → Leads lead → AllAccepted board x.states → 0 < core → core < core_count x.states
        → AllAccepted board (followed board lead x core).states
    unfolding followed taking
    followed_accepted v l a p h =
        let t = states_after board.vectors x.states core effect in
        let m : length t ≡ length x.states = length_states board.vectors x.states core effect in
        let k : length (with_flow t core lead.after) ≡ length t = length_flow t core lead.after in
        let w = states_accepted board.vectors x.states core effect v (follower_lawful x.memory x.states core (a core h) l) h a in
        if_both (λ (y : Shared). AllAccepted board y.states) (completes effect)
        (mode_accepted (with_flow t core lead.after) core (omega arith) (flow_accepted t core (omega arith) w lead.after l.after_lawful)
        (if_both (Mode core) (eqb effect.mode halted) (own is_halted) (is_linked_lem p)))
        (mode_accepted x.states core h a (own is_halted))

  -- ---- what all of them leave

  -- it has P if each of cores 1 to n keeps P
  followers_have : (P : Shared → Type 0) (n : ℕ) → ((y : Shared) (core : ℕ) → 0 < core → core ≤ n → P y → P (followed board lead y core))
      → (x : Shared) → P x → P (followers board lead n x)
  unfolding followers
  followers_have P zero k x p = p
  followers_have P (suc n) k x p =
      let y = followers board lead n x in
      let q : P y = followers_have P n (λ z core h i. k z core h (omega arith)) x p in
      if_both P (is_linked y.states (suc n)) (k y (suc n) (omega arith) (le_refl (suc n)) q) q

  pub followers_map : (f : List ℕ → List ℕ) → ((e : Effect) (l : List ℕ) → f (emptied e l) ≡ emptied e (f l)) → (n : ℕ) (x : Shared)
      → followers board lead n (mapped f x) ≡ mapped f (followers board lead n x)
  unfolding followers
  followers_map f q zero x = refl
  followers_map f q (suc n) x =
      let y = followers board lead n x in
      rw (followers_map f q n x, followed_map y (suc n) f q) (mapped_if f (is_linked y.states (suc n)) (followed board lead y (suc n)) y)

  module _ (n : ℕ) (x : Shared) where
    pub length_followers : Sized x (followers board lead n x)
    length_followers =
        followers_have (Sized x) n
        (λ y core h i s.
        let t = length_followed y core in
        record {
          memory_length = t.memory_length ∙ s.memory_length;
          states_length = t.states_length ∙ s.states_length;
          entries_length = t.entries_length ∙ s.entries_length;
        })
        x (record { memory_length = refl; states_length = refl; entries_length = refl })

    pub followers_right : Right board x.entries x.memory → Right board (followers board lead n x).entries (followers board lead n x).memory
    followers_right r = followers_have (λ (y : Shared). Right board y.entries y.memory) n (λ y core h i s. followed_right y core s) x r

    pub followers_keeps : (j : ℕ) → j < board.limit → get_or (followers board lead n x).memory j 0 ≡ get_or x.memory j 0
    followers_keeps j h =
        followers_have (λ (y : Shared). get_or y.memory j 0 ≡ get_or x.memory j 0) n (λ y core _ i s. followed_keeps y core j h ∙ s) x refl

    pub followers_accepted : LawfulVectors board.vectors → Leads lead → AllAccepted board x.states → n < core_count x.states
        → AllAccepted board (followers board lead n x).states
    followers_accepted v l a h =
        (followers_have (λ (y : Shared). (length y.states ≡ length x.states) × AllAccepted board y.states) n
        (λ y core p i s.
        let q : length y.states ≡ length x.states = s.0 in
        ((length_followed y core).states_length ∙ q, followed_accepted y core v l s.1 p (omega arith)))
        x (refl, a)).1
