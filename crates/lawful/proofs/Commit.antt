-- What an effect leaves in the states: its core's words read back, every other core's, and that accepted states stay accepted. Assumes nothing.
use mathlib.Core.Bool.{Bool, true, false, ◌&&◌, not}
use mathlib.Core.List.{List, [], ◌∷◌}
use mathlib.Core.Path.{◌≡◌, refl, ap, ◌∙◌}
use Prim.Native.Nat.{ℕ, ◌+◌, ◌*◌, ◌<◌, ◌≤◌}
use native.Mathlib.Nat.{le_refl}
use native.Mathlib.Omega.{arith}
use lib.Dec.{T, eqb, ltb, ltb→lt}
use lib.ListN.{length, length-set}
use lib.Seq.{get_or-set_same, get_or-set_other}
use borrow.Author.Tests.{ne_eqb, eqb-true, eqb-false, not-true}
use Rattle.std.specs.Prelude.{Option, Some, None, Ok, Err, if◌then◌else◌}
use Rattle.bits.proofs.Tests.{and_left, and_right, of_T}
use Rattle.bits.proofs.Cases.{if_law, if_both}
use Rattle.isa.specs.Vectors.{vector}
use Rattle.effect.specs.State.{state_words, pc_at, delay_at, target_at, sr_at, epcr_at, eear_at, esr_at, link_at, link_address_at, mode_at, machi_at, maclo_at, picmr_at, picsr_at}
use Rattle.effect.specs.Board.{Board}
use Rattle.product.specs.declared.Accumulator.{Accumulator}
use Rattle.effect.specs.Effect.{Outcome}
use Rattle.effect.specs.declared.types.Exception.{Exception}
use Rattle.effect.specs.declared.types.Effect.{Effect}
use Rattle.commit.specs.Commit.{word_at, put, put_value, put_flow, put_status, put_accumulated, put_exception, own_state}
use Rattle.lawful.specs.Inner.{Status, Multiple, LawfulVectors, Mask, own, LawfulState, LawfulWord, to_register, to_epcr, to_eear, to_esr, to_machi, to_maclo, to_picmr, to_picsr, LawfulOutcome, completes, raised, Lawful}
use Rattle.lawful.specs.Accepted.{Accepted}

-- ---- several words put into one core's state: pairs of a place and a word

abbrev pub puts : List (ℕ × ℕ) → List ℕ → ℕ → List ℕ
puts [] s core = s
puts (p ∷ l) s core = puts l (put s core p.0 p.1) core

-- the word then at place j, where d was
abbrev pub seen : List (ℕ × ℕ) → ℕ → ℕ → ℕ
seen [] j d = d
seen (p ∷ l) j d = seen l j (if eqb p.0 j then p.1 else d)

abbrev pub inside : List (ℕ × ℕ) → Bool
inside [] = true
inside (p ∷ l) = ltb p.0 state_words && inside l

pub length_puts : (l : List (ℕ × ℕ)) (s : List ℕ) (core : ℕ) → length (puts l s core) ≡ length s
length_puts [] s core = refl
length_puts (p ∷ l) s core = length_puts l (put s core p.0 p.1) core ∙ simp length-set

pub puts_seen : (l : List (ℕ × ℕ)) (s : List ℕ) (core j : ℕ) → core * state_words + j < length s → word_at (puts l s core) core j ≡ seen l j (word_at s core j)
puts_seen [] s core j h = refl
puts_seen (p ∷ l) s core j h =
    puts_seen l (put s core p.0 p.1) core j (rw length-set h) ∙ ap (seen l j) (one (eqb p.0 j) refl)
  where
    one : (b : Bool) → eqb p.0 j ≡ b → word_at (put s core p.0 p.1) core j ≡ (if b then p.1 else word_at s core j)
    one true q = let e : p.0 ≡ j = eqb-true _ _ q in rw e (get_or-set_same s (core * state_words + j) p.1 0 h)
    one false q = get_or-set_other s (core * state_words + p.0) (core * state_words + j) p.1 0 (λ z. eqb-false p.0 j q (omega arith))

pub puts_other : (l : List (ℕ × ℕ)) (s : List ℕ) (core c j : ℕ) → T (inside l) → (c ≡ core → ⊥) → j < state_words → word_at (puts l s core) c j ≡ word_at s c j
puts_other [] s core c j t n h = refl
puts_other (p ∷ l) s core c j t n h =
    let i : p.0 < state_words = ltb→lt p.0 state_words (and_left (ltb p.0 state_words) (inside l) t) in
    puts_other l (put s core p.0 p.1) core c j (and_right (ltb p.0 state_words) (inside l) t) n h
    ∙ get_or-set_other s (core * state_words + p.0) (c * state_words + j) p.1 0 (λ z. n (omega arith))

-- ---- an effect in its own core's state

abbrev always : Effect → List (ℕ × ℕ) → List (ℕ × ℕ)
always e l =
    (pc_at, e.flow.pc) ∷ (delay_at, e.flow.delay) ∷ (target_at, e.flow.target) ∷ (sr_at, e.sr) ∷ (link_at, e.link.held)
    ∷ (link_address_at, e.link.address) ∷ (mode_at, e.mode) ∷ l

abbrev accumulations : Option Accumulator → List (ℕ × ℕ) → List (ℕ × ℕ)
accumulations None l = l
accumulations (Some m) l = (machi_at, m.high) ∷ (maclo_at, m.low) ∷ l

abbrev exceptional : List ℕ → Outcome → List (ℕ × ℕ)
exceptional vectors (Ok u) = []
exceptional vectors (Err x) = (pc_at, vector vectors x.cause) ∷ (epcr_at, x.epcr) ∷ (eear_at, x.eear) ∷ (esr_at, x.esr) ∷ []

-- what an effect puts there, after its value
abbrev pub changes : List ℕ → Effect → Option Accumulator → Outcome → List (ℕ × ℕ)
changes vectors e a o = always e (accumulations a (exceptional vectors o))

pub changes_inside : (vectors : List ℕ) (e : Effect) (a : Option Accumulator) (o : Outcome) → T (inside (changes vectors e a o))
changes_inside vectors e None (Ok u) = tt
changes_inside vectors e None (Err x) = tt
changes_inside vectors e (Some m) (Ok u) = tt
changes_inside vectors e (Some m) (Err x) = tt

pub own_puts : (vectors s : List ℕ) (core : ℕ) (e : Effect) → own_state vectors s core e ≡ puts (changes vectors e e.accumulated e.outcome) (put_value s core e) core
unfolding own_state put_status put_flow put_accumulated put_exception
own_puts vectors s core e = go e.accumulated e.outcome
  where
    go : (a : Option Accumulator) (o : Outcome)
        → put_exception vectors o (put_accumulated a (put_status (put_flow (put_value s core e) core e) core e) core) core ≡ puts (changes vectors e a o) (put_value s core e) core
    go None (Ok u) = refl
    go None (Err x) = refl
    go (Some m) (Ok u) = refl
    go (Some m) (Err x) = refl

-- some rule looks at the place; at MACHI, MACLO and PICSR none does
abbrev pub ruled : ℕ → Bool
ruled j = not (eqb machi_at j) && (not (eqb maclo_at j) && not (eqb picsr_at j))

-- the accumulator is seen at no such place
unseen : (a : Option Accumulator) (l : List (ℕ × ℕ)) (j d : ℕ) → T (ruled j) → seen (accumulations a l) j d ≡ seen l j d
unseen None l j d t = refl
unseen (Some m) l j d t = ap (seen l j) kept
  where
    rest : Bool
    rest = not (eqb maclo_at j) && not (eqb picsr_at j)

    high : eqb machi_at j ≡ false
    high = not-true _ (of_T _ (and_left (not (eqb machi_at j)) rest t))

    low : eqb maclo_at j ≡ false
    low = not-true _ (of_T _ (and_left (not (eqb maclo_at j)) (not (eqb picsr_at j)) (and_right (not (eqb machi_at j)) rest t)))

    kept : (if eqb maclo_at j then m.low else if eqb machi_at j then m.high else d) ≡ d
    kept = rw (low, high)

pub length_value : (s : List ℕ) (core : ℕ) (e : Effect) → length (put_value s core e) ≡ length s
unfolding put_value
length_value s core e = if_both (λ (t : List ℕ). length t ≡ length s) (eqb e.place 0) refl (simp length-set)

pub length_own : (vectors s : List ℕ) (core : ℕ) (e : Effect) → length (own_state vectors s core e) ≡ length s
length_own vectors s core e = ap length (own_puts vectors s core e) ∙ length_puts (changes vectors e e.accumulated e.outcome) (put_value s core e) core ∙ length_value s core e

-- another core's state
pub own_other : (vectors s : List ℕ) (core : ℕ) (e : Effect) (c j : ℕ) → e.place < state_words → (c ≡ core → ⊥) → j < state_words
    → word_at (own_state vectors s core e) c j ≡ word_at s c j
unfolding put_value
own_other vectors s core e c j h n g =
    ap (λ (t : List ℕ). word_at t c j) (own_puts vectors s core e)
    ∙ puts_other (changes vectors e e.accumulated e.outcome) (put_value s core e) core c j (changes_inside vectors e e.accumulated e.outcome) n g
    ∙ if_both (λ (t : List ℕ). word_at t c j ≡ word_at s c j) (eqb e.place 0) refl
    (get_or-set_other s (core * state_words + e.place) (c * state_words + j) e.value 0 (λ z. n (omega arith)))

-- ---- an exception goes to its vector

vector_seen : (vectors : List ℕ) (e : Effect) (a : Option Accumulator) (x : Exception) (d : ℕ) → seen (changes vectors e a (Err x)) pc_at d ≡ vector vectors x.cause
vector_seen vectors e None x d = refl
vector_seen vectors e (Some m) x d = refl

pub own_vector : (vectors s : List ℕ) (core : ℕ) (e : Effect) (x : Exception) → core * state_words + state_words ≤ length s → e.outcome ≡ Err x
    → word_at (own_state vectors s core e) core pc_at ≡ vector vectors x.cause
own_vector vectors s core e x fits h =
    let n : length (put_value s core e) ≡ length s = length_value s core e in
    ap (λ (t : List ℕ). word_at t core pc_at) (own_puts vectors s core e)
    ∙ puts_seen (changes vectors e e.accumulated e.outcome) (put_value s core e) core pc_at (omega arith)
    ∙ ap (λ (o : Outcome). seen (changes vectors e e.accumulated o) pc_at (word_at (put_value s core e) core pc_at)) h
    ∙ vector_seen vectors e e.accumulated x (word_at (put_value s core e) core pc_at)

-- ---- an accepted state stays accepted

pub lawful_same : {board : Board} {core : ℕ} (g h : ℕ → ℕ) → ((j : ℕ) → j < state_words → T (ruled j) → h j ≡ g j) → LawfulState board core g
    → LawfulState board core h
lawful_same g h q a =
    let r0 : h 0 ≡ g 0 = q 0 (omega arith) tt in
    let r32 : h pc_at ≡ g pc_at = q pc_at (omega arith) tt in
    let r33 : h delay_at ≡ g delay_at = q delay_at (omega arith) tt in
    let r34 : h target_at ≡ g target_at = q target_at (omega arith) tt in
    let r35 : h sr_at ≡ g sr_at = q sr_at (omega arith) tt in
    let r36 : h epcr_at ≡ g epcr_at = q epcr_at (omega arith) tt in
    let r38 : h esr_at ≡ g esr_at = q esr_at (omega arith) tt in
    let r39 : h link_at ≡ g link_at = q link_at (omega arith) tt in
    let r40 : h link_address_at ≡ g link_address_at = q link_address_at (omega arith) tt in
    let r41 : h mode_at ≡ g mode_at = q mode_at (omega arith) tt in
    let r44 : h picmr_at ≡ g picmr_at = q picmr_at (omega arith) tt in
    record {
      zero_register = r0 ∙ a.zero_register;
      flow_lawful = rw (r32, r33, r34) a.flow_lawful;
      link_lawful = rw (r39, r40) a.link_lawful;
      sr_lawful = rw r35 a.sr_lawful;
      epcr_lawful = rw r36 a.epcr_lawful;
      esr_lawful = rw r38 a.esr_lawful;
      mode_lawful = rw r41 a.mode_lawful;
      mask_lawful = rw r44 a.mask_lawful;
    }

-- r0, EPCR, ESR and PICMR after the value is written
record Value (g : ℕ → ℕ) : Type 0 where
  zero_kept : g 0 ≡ 0
  epcr_kept : Multiple (g epcr_at)
  esr_kept : Status (g esr_at)
  mask_kept : Mask (g picmr_at)

module _ {board : Board} (s : List ℕ) (core : ℕ) (fits : core * state_words + state_words ≤ length s) (a : Accepted board s core) where
  value_kept : {picsr : ℕ} (p v : ℕ) → LawfulWord picsr p v → Value (word_at (if eqb p 0 then s else put s core p v) core)
  value_kept {picsr} p v w =
      if_law (λ (t : List ℕ). Value (word_at t core)) (eqb p 0)
      (λ _. record { zero_kept = a.zero_register; epcr_kept = a.epcr_lawful; esr_kept = a.esr_lawful; mask_kept = a.mask_lawful })
      (λ n. go w (eqb-false p 0 n))
    where
      at : (p v j : ℕ) → j < state_words → word_at (put s core p v) core j ≡ (if eqb p j then v else word_at s core j)
      at p v j h = puts_seen ((p, v) ∷ []) s core j (omega arith)

      other : (p v j : ℕ) → j < state_words → (p ≡ j → ⊥) → word_at (put s core p v) core j ≡ word_at s core j
      other p v j h n = at p v j h ∙ rw (ne_eqb p j n)

      -- a word elsewhere
      untouched : (p v : ℕ) → (p ≡ 0 → ⊥) → (p ≡ epcr_at → ⊥) → (p ≡ esr_at → ⊥) → (p ≡ picmr_at → ⊥) → Value (word_at (put s core p v) core)
      untouched p v n e f m =
          record {
            zero_kept = other p v 0 (omega arith) n ∙ a.zero_register;
            epcr_kept = rw (other p v epcr_at (omega arith) e) a.epcr_lawful;
            esr_kept = rw (other p v esr_at (omega arith) f) a.esr_lawful;
            mask_kept = rw (other p v picmr_at (omega arith) m) a.mask_lawful;
          }

      go : {p v : ℕ} → LawfulWord picsr p v → (p ≡ 0 → ⊥) → Value (word_at (put s core p v) core)
      go {p} {v} (to_register h) n = untouched p v n (λ z. omega arith) (λ z. omega arith) (λ z. omega arith)
      go {p} {v} (to_epcr m) n =
          record {
            zero_kept = at epcr_at v 0 (omega arith) ∙ a.zero_register;
            epcr_kept = rw (at epcr_at v epcr_at (omega arith)) m;
            esr_kept = rw (at epcr_at v esr_at (omega arith)) a.esr_lawful;
            mask_kept = rw (at epcr_at v picmr_at (omega arith)) a.mask_lawful;
          }
      go {p} {v} to_eear n = untouched eear_at v n (λ z. omega arith) (λ z. omega arith) (λ z. omega arith)
      go {p} {v} (to_esr m) n =
          record {
            zero_kept = at esr_at v 0 (omega arith) ∙ a.zero_register;
            epcr_kept = rw (at esr_at v epcr_at (omega arith)) a.epcr_lawful;
            esr_kept = rw (at esr_at v esr_at (omega arith)) m;
            mask_kept = rw (at esr_at v picmr_at (omega arith)) a.mask_lawful;
          }
      go {p} {v} to_machi n = untouched machi_at v n (λ z. omega arith) (λ z. omega arith) (λ z. omega arith)
      go {p} {v} to_maclo n = untouched maclo_at v n (λ z. omega arith) (λ z. omega arith) (λ z. omega arith)
      go {p} {v} (to_picmr m) n =
          record {
            zero_kept = at picmr_at v 0 (omega arith) ∙ a.zero_register;
            epcr_kept = rw (at picmr_at v epcr_at (omega arith)) a.epcr_lawful;
            esr_kept = rw (at picmr_at v esr_at (omega arith)) a.esr_lawful;
            mask_kept = rw (at picmr_at v picmr_at (omega arith)) m;
          }
      go {p} {v} (to_picsr m) n = untouched picsr_at v n (λ z. omega arith) (λ z. omega arith) (λ z. omega arith)

  changed : (vectors : List ℕ) → LawfulVectors vectors → {picsr : ℕ} (e : Effect) → Lawful picsr e → {o : Outcome} → LawfulOutcome o → (t : List ℕ) → Value (word_at t core)
      → LawfulState board core (λ j. seen (changes vectors e None o) j (word_at t core j))
  changed vectors multiple e l completes t v =
      record {
        zero_register = v.zero_kept;
        flow_lawful = l.flow_lawful;
        link_lawful = l.link_lawful;
        sr_lawful = l.sr_lawful;
        epcr_lawful = v.epcr_kept;
        esr_lawful = v.esr_kept;
        mode_lawful = own l.mode_lawful;
        mask_lawful = v.mask_kept;
      }
  changed vectors multiple e l (raised {x} m q) t v =
      record {
        zero_register = v.zero_kept;
        flow_lawful = record {
          delay_bit = l.flow_lawful.delay_bit;
          pc_multiple = multiple x.cause;
          target_multiple = l.flow_lawful.target_multiple;
          no_target = l.flow_lawful.no_target;
        };
        link_lawful = l.link_lawful;
        sr_lawful = l.sr_lawful;
        epcr_lawful = m;
        esr_lawful = q;
        mode_lawful = own l.mode_lawful;
        mask_lawful = v.mask_kept;
      }

  pub own_accepted : (vectors : List ℕ) → LawfulVectors vectors → {picsr : ℕ} (e : Effect) → Lawful picsr e → Accepted board (own_state vectors s core e) core
  unfolding put_value
  own_accepted vectors multiple e l =
      let t = put_value s core e in
      let n : length t ≡ length s = length_value s core e in
      lawful_same (λ j. seen (changes vectors e None e.outcome) j (word_at t core j)) (word_at (own_state vectors s core e) core)
      (λ j h t'.
      ap (λ (u : List ℕ). word_at u core j) (own_puts vectors s core e) ∙ puts_seen (changes vectors e e.accumulated e.outcome) t core j (omega arith)
      ∙ unseen e.accumulated (exceptional vectors e.outcome) j _ t')
      (changed vectors multiple e l l.outcome_lawful t (value_kept e.place e.value l.word_lawful))

-- ---- its mode is the effect's

pub mode_seen : (vectors : List ℕ) (e : Effect) (a : Option Accumulator) (o : Outcome) (d : ℕ) → seen (changes vectors e a o) mode_at d ≡ e.mode
mode_seen vectors e None (Ok u) d = refl
mode_seen vectors e None (Err x) d = refl
mode_seen vectors e (Some m) (Ok u) d = refl
mode_seen vectors e (Some m) (Err x) d = refl

-- ---- PICSR never grows

-- nothing but the value is put there
picsr_unseen : (vectors : List ℕ) (e : Effect) (a : Option Accumulator) (o : Outcome) (d : ℕ) → seen (changes vectors e a o) picsr_at d ≡ d
picsr_unseen vectors e None (Ok u) d = refl
picsr_unseen vectors e None (Err x) d = refl
picsr_unseen vectors e (Some m) (Ok u) d = refl
picsr_unseen vectors e (Some m) (Err x) d = refl

module _ (s : List ℕ) (core : ℕ) (fits : core * state_words + state_words ≤ length s) where
  value_picsr : (p v : ℕ) → LawfulWord (word_at s core picsr_at) p v → word_at (if eqb p 0 then s else put s core p v) core picsr_at ≤ word_at s core picsr_at
  value_picsr p v w = if_both (λ (t : List ℕ). word_at t core picsr_at ≤ word_at s core picsr_at) (eqb p 0) (le_refl _) (go w)
    where
      at : (p v : ℕ) → word_at (put s core p v) core picsr_at ≡ (if eqb p picsr_at then v else word_at s core picsr_at)
      at p v = puts_seen ((p, v) ∷ []) s core picsr_at (omega arith)

      go : {p v : ℕ} → LawfulWord (word_at s core picsr_at) p v → word_at (put s core p v) core picsr_at ≤ word_at s core picsr_at
      go {p} {v} (to_register h) = rw (at p v, ne_eqb p picsr_at (λ z. omega arith)) (le_refl _)
      go {p} {v} (to_epcr m) = rw (at epcr_at v) (le_refl _)
      go {p} {v} to_eear = rw (at eear_at v) (le_refl _)
      go {p} {v} (to_esr m) = rw (at esr_at v) (le_refl _)
      go {p} {v} to_machi = rw (at machi_at v) (le_refl _)
      go {p} {v} to_maclo = rw (at maclo_at v) (le_refl _)
      go {p} {v} (to_picmr m) = rw (at picmr_at v) (le_refl _)
      go {p} {v} (to_picsr m) = rw (at picsr_at v) m

  pub own_picsr : (vectors : List ℕ) (e : Effect) → Lawful (word_at s core picsr_at) e → word_at (own_state vectors s core e) core picsr_at ≤ word_at s core picsr_at
  unfolding put_value
  own_picsr vectors e l =
      let t = put_value s core e in
      let n : length t ≡ length s = length_value s core e in
      let q : word_at (own_state vectors s core e) core picsr_at ≡ word_at t core picsr_at =
      ap (λ (u : List ℕ). word_at u core picsr_at) (own_puts vectors s core e) ∙ puts_seen (changes vectors e e.accumulated e.outcome) t core picsr_at (omega arith)
      ∙ picsr_unseen vectors e e.accumulated e.outcome (word_at t core picsr_at) in
      rw q (value_picsr e.place e.value l.word_lawful)
