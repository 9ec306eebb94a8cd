-- The places of set bits by counts of zeros. Assumes nothing.
use Rattle.std.proofs.Common.{◌≡◌, ℕ, zero, suc, ◌+◌, ◌-◌, ◌*◌, ◌/◌, ◌%◌, ◌^◌, ◌<◌, ◌≤◌, Bool, true, false, ltb, sym, refl, ap, ◌∙◌, lt_of_lt_of_le, add_comm, pow-suc, div-one, add-one, arith, pow_pos, pow_mono, shr-shr, ltb-false, ltb-true, lt-ltb, eq-eqb, ne_eqb}
use native.Mathlib.Nat.{div-eq_of_lt, div-eq_of_lt-le}
use lib.Count.{count_leading_zeros, count_trailing_zeros, leading_top, leading_of_zero, under}
use Rattle.std.specs.Prelude.{if◌then◌else◌}
use Rattle.bits.specs.Word.{bit_at}
use Rattle.arith.specs.Bit.{is_set}
use Rattle.arith.specs.Place.{least, greatest}

clear : (x i : ℕ) → bit_at i x ≡ 0 → is_set i x ≡ false
clear x i e = ne_eqb (bit_at i x) 1 (λ z. omega arith)

-- ---- the two searches, by what they find

module _ (x : ℕ) where
  pub least_none : (n : ℕ) → ((i : ℕ) → i < n → is_set i x ≡ false) → least n x ≡ 0
  unfolding least
  least_none zero h = refl
  least_none (suc n) h = rw (least_none n (λ i g. h i (omega arith)), h n (omega arith))

  pub least_is : (n r : ℕ) → r < n → is_set r x ≡ true → ((i : ℕ) → i < r → is_set i x ≡ false) → least n x ≡ suc r
  unfolding least
  least_is zero r h t b = absurd (omega arith)
  least_is (suc n) r h t b = go (λ l. least_is n r l t b) (ltb r n) refl
    where
      go : (r < n → least n x ≡ suc r) → (u : Bool) → ltb r n ≡ u
          → (if ltb 0 (least n x) then least n x else if is_set n x then suc n else 0) ≡ suc r
      go ih true e = rw (ih (ltb-true r n e), lt-ltb 0 (suc r) (omega arith))
      go ih false e =
          let l : n ≤ r = ltb-false r n e in
          let same : r ≡ n = omega arith in
          let t' : is_set n x ≡ true = rw same at t in
          rw (least_none n (λ i g. b i (omega arith)), t') (ap suc (sym same))

  pub greatest_none : (n : ℕ) → ((i : ℕ) → i < n → is_set i x ≡ false) → greatest n x ≡ 0
  unfolding greatest
  greatest_none zero h = refl
  greatest_none (suc n) h = rw (greatest_none n (λ i g. h i (omega arith)), h n (omega arith))

  pub greatest_is : (n r : ℕ) → r < n → is_set r x ≡ true → ((i : ℕ) → r < i → i < n → is_set i x ≡ false) → greatest n x ≡ suc r
  unfolding greatest
  greatest_is zero r h t b = absurd (omega arith)
  greatest_is (suc n) r h t b = go (λ l. greatest_is n r l t (λ i p q. b i p (omega arith))) (ltb r n) refl
    where
      go : (r < n → greatest n x ≡ suc r) → (u : Bool) → ltb r n ≡ u → (if is_set n x then suc n else greatest n x) ≡ suc r
      go ih true e =
          let l : r < n = ltb-true r n e in
          rw (b n l (omega arith)) (ih l)
      go ih false e =
          let l : n ≤ r = ltb-false r n e in
          let same : r ≡ n = omega arith in
          let t' : is_set n x ≡ true = rw same at t in
          rw t' (ap suc (sym same))

  -- a place is one of 0 to n
  pub least_le : (n : ℕ) → least n x ≤ n
  unfolding least
  least_le zero = omega arith
  least_le (suc n) = go (least_le n) (ltb 0 (least n x)) (is_set n x)
    where
      go : least n x ≤ n → (u v : Bool) → (if u then least n x else if v then suc n else 0) ≤ suc n
      go ih true v = omega arith
      go ih false true = omega arith
      go ih false false = omega arith

none_of_zero : (i : ℕ) → is_set i 0 ≡ false
none_of_zero i = clear 0 i (ap (λ n. n % 2) (div-eq_of_lt (pow_pos i)))

-- ---- ff1

-- as many zeros end x as its lowest set bit has places below
record Lowest (k x t : ℕ) : Type 0 where
  pub within : t < k
  pub set : bit_at t x ≡ 1
  pub below : (i : ℕ) → i < t → bit_at i x ≡ 0

trailing_lowest : (k x : ℕ) → 0 < x → x < 2 ^ k → Lowest k x (count_trailing_zeros k x)
unfolding count_trailing_zeros
trailing_lowest zero x p h = absurd (omega arith)
trailing_lowest (suc k) x p h = go (trailing_lowest k (x / 2)) (x % 2) refl
  where
    next : (i : ℕ) → x / 2 ^ suc i ≡ x / 2 / 2 ^ i
    next i = sym (shr-shr x 1 i ∙ ap (λ n. x / 2 ^ n) (add_comm 1 i ∙ add-one i))

    under_suc : (t : ℕ) → x % 2 ≡ 0 → ((i : ℕ) → i < t → bit_at i (x / 2) ≡ 0) → (i : ℕ) → i < suc t → bit_at i x ≡ 0
    under_suc t e b zero g = ap (λ n. n % 2) (div-one x) ∙ e
    under_suc t e b (suc i) g = ap (λ n. n % 2) (next i) ∙ b i (omega arith)

    go : (0 < x / 2 → x / 2 < 2 ^ k → Lowest k (x / 2) (count_trailing_zeros k (x / 2))) → (d : ℕ) → x % 2 ≡ d → Lowest (suc k) x (under d (count_trailing_zeros k (x / 2)))
    go rec zero e =
        let q : 2 ^ suc k ≡ 2 ^ k * 2 = pow-suc 2 k in
        let t = count_trailing_zeros k (x / 2) in
        let ih : Lowest k (x / 2) t = rec (omega arith) (omega arith) in
        record { within = omega arith; set = ap (λ n. n % 2) (next t) ∙ ih.set; below = under_suc t e ih.below }
    go rec (suc zero) e = record { within = omega arith; set = ap (λ n. n % 2) (div-one x) ∙ e; below = λ i g. absurd (omega arith) }
    go rec (suc (suc d)) e = absurd (omega arith)

pub ff1_zero : 0 ≡ least 32 0
ff1_zero = sym (least_none 0 32 (λ i h. none_of_zero i))

pub ff1_trailing : (x : ℕ) → 0 < x → x < 2 ^ 32 → count_trailing_zeros 32 x + 1 ≡ least 32 x
ff1_trailing x p h =
    let t = trailing_lowest 32 x p h in
    add-one (count_trailing_zeros 32 x)
    ∙ sym (least_is x 32 (count_trailing_zeros 32 x) t.within (eq-eqb _ _ t.set) (λ i g. clear x i (t.below i g)))

-- ---- fl1

pub fl1_leading : (x : ℕ) → x < 2 ^ 32 → 32 - count_leading_zeros 32 x ≡ greatest 32 x
fl1_leading zero h = ap (λ n. 32 - n) (leading_of_zero 32) ∙ sym (greatest_none 0 32 (λ i g. none_of_zero i))
fl1_leading (suc y) h =
    let x = suc y in
    let t = leading_top 32 x (omega arith) h in
    let j = t.0 in
    let z : count_leading_zeros 32 x + suc j ≡ 32 = t.1 in
    let e : 32 - count_leading_zeros 32 x ≡ suc j = omega arith in
    let q : 2 ^ suc j ≡ 2 ^ j * 2 = pow-suc 2 j in
    let lo : 1 * 2 ^ j ≤ x = let l : 2 ^ j ≤ x = t.2 in omega arith in
    let hi : x < (1 + 1) * 2 ^ j = let l : x < 2 ^ suc j = t.3 in omega arith in
    e
    ∙ sym
    (greatest_is x 32 j (omega arith) (eq-eqb _ _ (ap (λ n. n % 2) (div-eq_of_lt-le (2 ^ j) lo hi)))
    (λ i g k. clear x i (ap (λ n. n % 2) (div-eq_of_lt (lt_of_lt_of_le t.3 (pow_mono g))))))
