-- Links that a store clears, and accepted states with them. Assumes nothing.
use mathlib.Core.Bool.{Bool, true, false, ◌&&◌}
use mathlib.Core.List.{List, [], ◌∷◌}
use mathlib.Core.Path.{◌≡◌, refl, sym, ap, ap₂, ◌∙◌}
use Prim.Native.Nat.{ℕ, zero, suc, ◌+◌, ◌*◌, ◌<◌, ◌≤◌}
use native.Mathlib.Omega.{arith}
use lib.Dec.{eqb}
use lib.ListN.{length}
use borrow.Author.Tests.{ne_eqb}
use Rattle.std.specs.Prelude.{if◌then◌else◌}
use Rattle.bits.proofs.Cases.{if_both, by_equality}
use Rattle.effect.specs.State.{state_words, link_at, link_address_at}
use Rattle.effect.specs.Effect.{no_link}
use Rattle.effect.specs.declared.types.Link.{Link}
use Rattle.effect.specs.Board.{Board}
use Rattle.commit.specs.Commit.{word_at, core_count, clear_link, clear_links}
use Rattle.lawful.specs.Accepted.{Accepted, AllAccepted}
use Rattle.lawful.proofs.Lawful.{no_link_lawful}
use Rattle.lawful.proofs.Commit.{puts, seen, length_puts, puts_seen, puts_other, lawful_same}

-- a core's link, and whether it is to the word at address w
abbrev pub link_of : List ℕ → ℕ → Link
link_of s core = record { held = word_at s core link_at; address = word_at s core link_address_at }

abbrev pub linked_to : Link → ℕ → Bool
linked_to l w = eqb l.held 1 && eqb l.address w

abbrev cleared : List (ℕ × ℕ)
cleared = (link_at, 0) ∷ (link_address_at, 0) ∷ []

-- ---- one core's link

module _ (s : List ℕ) (core w : ℕ) where
  length_clear : length (clear_link s core w) ≡ length s
  unfolding clear_link
  length_clear = if_both (λ (t : List ℕ). length t ≡ length s) (linked_to (link_of s core) w) (length_puts cleared s core) refl

  clear_other : (c j : ℕ) → (c ≡ core → ⊥) → j < state_words → word_at (clear_link s core w) c j ≡ word_at s c j
  unfolding clear_link
  clear_other c j n h =
      if_both (λ (t : List ℕ). word_at t c j ≡ word_at s c j) (linked_to (link_of s core) w) (puts_other cleared s core c j tt n h) refl

  module _ (fits : core * state_words + state_words ≤ length s) where
    clear_rest : (j : ℕ) → j < state_words → (j ≡ link_at → ⊥) → (j ≡ link_address_at → ⊥) → word_at (clear_link s core w) core j ≡ word_at s core j
    unfolding clear_link
    clear_rest j h m n =
        if_both (λ (t : List ℕ). word_at t core j ≡ word_at s core j) (linked_to (link_of s core) w)
        (puts_seen cleared s core j (omega arith) ∙ simp (ne_eqb link_at j (λ e. m (sym e)), ne_eqb link_address_at j (λ e. n (sym e))))
        refl

    clear_link_lem : link_of (clear_link s core w) core ≡ (if linked_to (link_of s core) w then no_link else link_of s core)
    unfolding clear_link
    clear_link_lem = go (linked_to (link_of s core) w)
      where
        go : (b : Bool) → link_of (if b then puts cleared s core else s) core ≡ (if b then no_link else link_of s core)
        go true =
            ap₂ (λ (m n : ℕ). record { held = m; address = n }) (puts_seen cleared s core link_at (omega arith))
            (puts_seen cleared s core link_address_at (omega arith))
        go false = refl

    clear_own : {board : Board} → Accepted board s core → Accepted board (clear_link s core w) core
    unfolding clear_link
    clear_own {board} a =
        if_both (λ (t : List ℕ). Accepted board t core) (linked_to (link_of s core) w)
        (lawful_same (λ j. seen cleared j (word_at s core j)) (word_at (puts cleared s core) core) (λ j h _. puts_seen cleared s core j (omega arith))
        record {
          zero_register = a.zero_register;
          flow_lawful = a.flow_lawful;
          link_lawful = no_link_lawful;
          sr_lawful = a.sr_lawful;
          epcr_lawful = a.epcr_lawful;
          esr_lawful = a.esr_lawful;
          mode_lawful = a.mode_lawful;
          mask_lawful = a.mask_lawful;
        })
        a

    clear_accepted : {board : Board} → AllAccepted board s → AllAccepted board (clear_link s core w)
    clear_accepted a c h =
        let l : length (clear_link s core w) ≡ length s = length_clear in
        by_equality c core (λ e. rw e (clear_own (a core (omega arith))))
        (λ n. lawful_same (word_at s c) (word_at (clear_link s core w) c) (λ j g _. clear_other c j n g) (a c (omega arith)))

-- ---- every core's

module _ (s : List ℕ) (w : ℕ) where
  pub length_clears : (n : ℕ) → length (clear_links n s w) ≡ length s
  unfolding clear_links
  length_clears zero = refl
  length_clears (suc n) = length_clear (clear_links n s w) n w ∙ length_clears n

  -- of the first n cores only links change
  pub clears_rest : (n c j : ℕ) → n ≤ core_count s → j < state_words → (j ≡ link_at → ⊥) → (j ≡ link_address_at → ⊥)
      → word_at (clear_links n s w) c j ≡ word_at s c j
  unfolding clear_links
  clears_rest zero c j h i p q = refl
  clears_rest (suc n) c j h i p q =
      let t = clear_links n s w in
      let l : length t ≡ length s = length_clears n in
      by_equality c n (λ e. rw e (clear_rest t n w (omega arith) j i p q)) (λ m. clear_other t n w c j m i)
      ∙ clears_rest n c j (omega arith) i p q

  -- nothing of the others
  pub clears_others : (n c j : ℕ) → n ≤ c → j < state_words → word_at (clear_links n s w) c j ≡ word_at s c j
  unfolding clear_links
  clears_others zero c j h i = refl
  clears_others (suc n) c j h i = clear_other (clear_links n s w) n w c j (λ e. omega arith) i ∙ clears_others n c j (omega arith) i

  -- and the links to the word are cleared
  pub clears_link : (n c : ℕ) → n ≤ core_count s → c < n → link_of (clear_links n s w) c ≡ (if linked_to (link_of s c) w then no_link else link_of s c)
  unfolding clear_links
  clears_link zero c h i = absurd (omega arith)
  clears_link (suc n) c h i =
      let t = clear_links n s w in
      let l : length t ≡ length s = length_clears n in
      by_equality c n
      (λ e.
      let q : link_of t n ≡ link_of s n =
      ap₂ (λ (m k : ℕ). record { held = m; address = k }) (clears_others n n link_at (omega arith) (omega arith))
      (clears_others n n link_address_at (omega arith) (omega arith)) in
      rw e (clear_link_lem t n w (omega arith) ∙ ap (λ (k : Link). if linked_to k w then no_link else k) q))
      (λ m.
      ap₂ (λ (u v : ℕ). record { held = u; address = v }) (clear_other t n w c link_at m (omega arith)) (clear_other t n w c link_address_at m (omega arith))
      ∙ clears_link n c (omega arith) (omega arith))

  pub clears_accepted : {board : Board} (n : ℕ) → n ≤ core_count s → AllAccepted board s → AllAccepted board (clear_links n s w)
  unfolding clear_links
  clears_accepted zero h a = a
  clears_accepted (suc n) h a =
      let l : length (clear_links n s w) ≡ length s = length_clears n in
      clear_accepted (clear_links n s w) n w (omega arith) (clears_accepted n (omega arith) a)
