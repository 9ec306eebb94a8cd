-- Tests over numbers and lists, as a loop makes them, and the first of a list of rules that is broken. Assumes nothing.
use mathlib.Core.Bool.{Bool, true, false, ◌&&◌, and_assoc}
use mathlib.Core.List.{List, [], ◌∷◌, ◌++◌}
use mathlib.Core.Path.{◌≡◌, ap, refl, sym, ◌∙◌}
use Prim.Native.Nat.{ℕ, zero, suc, max, ◌+◌, ◌*◌, ◌<◌, ◌≤◌}
use native.Mathlib.Omega.{arith}
use lib.Dec.{T, ltb, ltb→lt}
use lib.ListN.{length, get_or}
use Rattle.std.specs.Prelude.{if◌then◌else◌, Option, fold}
use Rattle.std.specs.Option.{MatchOption}
use Rattle.std.specs.List.{reduce, list_all, enumerate_from}
use Rattle.std.proofs.lemmas.Bool.Decides.{nat_tests}
use Rattle.bits.proofs.Tests.{and_left, and_right, and_both, of_T}
use Rattle.effect.specs.State.{state_words, own_words, pc_at, delay_at, target_at, sr_at, epcr_at, esr_at, link_at, link_address_at, mode_at, picmr_at, all, rules}
use Rattle.effect.specs.Board.{Board}
use Rattle.commit.specs.Commit.{word_at}
use Rattle.commit.proofs.Own.{own_word_at}
use Rattle.commit.specs.Inner.{own_word}
use Rattle.refusal.specs.Refusal.{Rule, every_from, first_broken}

pub and_true : (b : Bool) → b && true ≡ b
and_true true = refl
and_true false = refl

-- a rule that passes before others
pub pass : {a : Bool} → a ≡ true → (l : List Bool) → all l ≡ all (a ∷ l)
pass p l = rw p

-- ---- every element of a list

module _ (f : ℕ → ℕ → Bool) where
  -- what `all` makes of them and their places
  pub all_from : (l : List ℕ) (i : ℕ) → list_all (λ (p : ℕ × ℕ). f p.0 p.1) (enumerate_from i l) ≡ every_from f i l
  unfolding every_from
  all_from [] i = refl
  all_from (x ∷ l) i = ap (λ (b : Bool). f i x && b) (all_from l (i + 1))

  pub from_at : (l : List ℕ) (i : ℕ) → T (every_from f i l) → (k : ℕ) → k < length l → T (f (i + k) (get_or l k 0))
  unfolding every_from
  from_at [] i t k h = absurd (let z : k < 0 = h in omega arith)
  from_at (x ∷ l) i t zero h =
      let e : i + 0 ≡ i = omega arith in
      rw e (and_left (f i x) (every_from f (i + 1) l) t)
  from_at (x ∷ l) i t (suc k) h =
      let e : i + suc k ≡ i + 1 + k = omega arith in
      rw e (from_at l (i + 1) (and_right (f i x) (every_from f (i + 1) l) t) k (omega arith))

  pub of_from : (l : List ℕ) (i : ℕ) → ((k : ℕ) → k < length l → T (f (i + k) (get_or l k 0))) → T (every_from f i l)
  unfolding every_from
  of_from [] i g = tt
  of_from (x ∷ l) i g =
      and_both (f i x) (every_from f (i + 1) l) (first (g 0 (omega arith))) (of_from l (i + 1) rest)
    where
      first : T (f (i + 0) x) → T (f i x)
      first t = let e : i + 0 ≡ i = omega arith in rw e at t

      rest : (k : ℕ) → k < length l → T (f (i + 1 + k) (get_or l k 0))
      rest k h =
          let e : i + suc k ≡ i + 1 + k = omega arith in
          rw e at (g (suc k) (omega arith))

-- ---- the greatest element of a list

max_below : (n a b : ℕ) → ltb (max a b) n ≡ (ltb a n && ltb b n)
max_below n a b = grind (arith, nat_tests)

fold_below : (n m : ℕ) (l : List ℕ) (i : ℕ) → ltb (fold max m l) n ≡ (ltb m n && every_from (λ i x. ltb x n) i l)
unfolding every_from
fold_below n m [] i = sym (and_true (ltb m n))
fold_below n m (x ∷ l) i = fold_below n (max m x) l (i + 1) ∙ rw (max_below n m x) (and_assoc (ltb m n) (ltb x n) (every_from (λ i x. ltb x n) (i + 1) l))

-- it is below n, if there is one, where every element is; P is what is known of the test's answer
pub greatest_below : (n : ℕ) (l : List ℕ) (greatest : Option ℕ) (r : Bool) (P : ℕ → Type 0) → greatest ≡ reduce max l → ((x : ℕ) → P x → r ≡ ltb x n) →
    MatchOption greatest (r ≡ true) P → r ≡ every_from (λ i x. ltb x n) 0 l
unfolding every_from
greatest_below n [] greatest r P e f h = rw e at h
greatest_below n (x ∷ l) greatest r P e f h = f (fold max x l) (rw e at h) ∙ fold_below n x l 1

-- ---- rules, in their order

-- every rule has a number, so that 0 stands for none
abbrev pub numbered : List Rule → Bool
numbered [] = true
numbered (r ∷ l) = ltb 0 r.number && numbered l

abbrev pub Pass : List Rule → Type 0
Pass [] = Unit
Pass (r ∷ l) = T r.passes × Pass l

passes_first : (b : Bool) (n first : ℕ) {A : Type 0} → 0 < n → (if b then first else n) ≡ 0 → (first ≡ 0 → A) → T b × A
passes_first true n first h e f = (tt, f e)
passes_first false n first h e f = absurd (omega arith)

pub each_passes : (l : List Rule) → T (numbered l) → first_broken l ≡ 0 → Pass l
unfolding first_broken
each_passes [] n e = tt
each_passes (r ∷ l) n e =
    let h = ltb→lt 0 r.number (and_left (ltb 0 r.number) (numbered l) n) in
    passes_first r.passes r.number (first_broken l) h e (each_passes l (and_right (ltb 0 r.number) (numbered l) n))

pub none_broken : (l : List Rule) → Pass l → first_broken l ≡ 0
unfolding first_broken
none_broken [] t = refl
none_broken (r ∷ l) t = rw (of_T r.passes t.0) (none_broken l t.1)

-- more rules after them
before_first : (b : Bool) (n first all : ℕ) → ((if b then first else n) ≡ 0 → ⊥) → ((first ≡ 0 → ⊥) → all ≡ first)
    → (if b then all else n) ≡ (if b then first else n)
before_first true n first all e f = f e
before_first false n first all e f = refl

pub broken_before : (l more : List Rule) → (first_broken l ≡ 0 → ⊥) → first_broken (l ++ more) ≡ first_broken l
unfolding first_broken
broken_before [] more e = absurd (e refl)
broken_before (r ∷ l) more e = before_first r.passes r.number (first_broken l) (first_broken (l ++ more)) e (broken_before l more)

pub broken_after : (l more : List Rule) → T (numbered l) → first_broken l ≡ 0 → first_broken (l ++ more) ≡ first_broken more
unfolding first_broken
broken_after [] more n e = refl
broken_after (r ∷ l) more n e =
    let t = each_passes (r ∷ l) n e in
    let p : r.passes ≡ true = of_T r.passes t.0 in
    rw p (broken_after l more (and_right (ltb 0 r.number) (numbered l) n) (rw p at e))

-- ---- the rules on a state, of the part of the states that it is

pub part_rules : (board : Board) (s : List ℕ) (core : ℕ) → core * state_words + state_words ≤ length s
    → all (rules board core (own_word (own_words s core))) ≡ all (rules board core (word_at s core))
part_rules board s core h =
    let word = own_word_at s core h in
    simp (
      word 0 (omega arith),
      word pc_at (omega arith),
      word delay_at (omega arith),
      word target_at (omega arith),
      word sr_at (omega arith),
      word epcr_at (omega arith),
      word esr_at (omega arith),
      word link_at (omega arith),
      word link_address_at (omega arith),
      word mode_at (omega arith),
      word picmr_at (omega arith),
    )
