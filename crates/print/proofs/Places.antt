-- How many digits a number has. Assumes nothing.
use mathlib.Core.Path.{◌≡◌, refl, ap, sym, ◌∙◌}
use mathlib.Core.Bool.{Bool, true, false}
use Prim.Native.Nat.{ℕ, zero, suc, ◌+◌, ◌*◌, ◌/◌, ◌^◌, ◌≤◌, ◌<◌}
use native.Mathlib.Nat.{le_trans, pow-suc, pow-le-pow_right}
use native.Mathlib.Numerals.{add-one}
use native.Mathlib.Omega.{arith}
use borrow.Author.Tests.{lt-ltb, le-ltb}
use lib.Dec.{ltb}
use lib.ListN.{length, length-append}
use Rattle.print.specs.Digits.{digits, seek, least_from, decimal_places, decimal, hexadecimal}

pub length_digits : (base k n : ℕ) → length (digits base k n) ≡ k
unfolding digits
length_digits base zero n = refl
length_digits base (suc k) n = simp (length-append, length_digits base k (n / base)) (omega arith)

module _ (test : ℕ → Bool) where
  pub least_here : (k n : ℕ) → test k ≡ true → least_from test k n ≡ k
  unfolding least_from seek
  least_here k zero e = refl
  least_here k (suc n) e = rw e

  pub least_later : (k n : ℕ) → test k ≡ false → least_from test k (suc n) ≡ least_from test (suc k) n
  unfolding least_from seek
  least_later k n e = rw e

  -- the first number that passes
  pub least_is : (k n j : ℕ) → k ≤ j → j ≤ k + n → test j ≡ true → ((i : ℕ) → i < j → k ≤ i → test i ≡ false) → least_from test k n ≡ j
  unfolding least_from seek
  least_is k zero j l h e below = omega arith
  least_is k (suc n) j l h e below = go (test k) refl (λ a. least_is (suc k) n j a (omega arith) e (λ i b c. below i b (omega arith)))
    where
      go : (b : Bool) → test k ≡ b → (suc k ≤ j → least_from test (suc k) n ≡ j) → least_from test k (suc n) ≡ j
      go true y r =
          let z : k < j → ⊥ = λ q. let f : test k ≡ false = below k q (omega arith) in cc in
          rw (least_here k (suc n) y) (omega arith)
      go false y r = rw (least_later k n y) (r (let z : k ≡ j → ⊥ = λ q. let f : test k ≡ true = ap test q ∙ e in cc in omega arith))

  pub least_le : (k n j : ℕ) → test j ≡ true → k ≤ j → least_from test k n ≤ j
  unfolding least_from seek
  least_le k zero j e h = h
  least_le k (suc n) j e h = go (test k) refl (λ q. least_le (suc k) n j e q)
    where
      go : (b : Bool) → test k ≡ b → (suc k ≤ j → least_from test (suc k) n ≤ j) → least_from test k (suc n) ≤ j
      go true y r = rw (least_here k (suc n) y) h
      go false y r = rw (least_later k n y) (r (below (λ q. differ (sym e ∙ ap test (sym q) ∙ y))))
        where
          differ : true ≡ false → ⊥
          differ q = let z : ◌≡◌ {A = ℕ} 0 1 = cc in omega arith

          below : (k ≡ j → ⊥) → suc k ≤ j
          below q = omega arith

-- a number below 10 ^ j has at most j digits
pub decimal_le : (n j : ℕ) → 0 < j → n < 10 ^ j → length (decimal n) ≤ j
unfolding decimal decimal_places
decimal_le n j p h = rw length_digits (least_le (λ k. ltb n (10 ^ k)) 1 n j (lt-ltb _ _ h) p)

pub length_hexadecimal : (n : ℕ) → length (hexadecimal n) ≡ 8
unfolding hexadecimal
length_hexadecimal n = length_digits 16 8 n

lt_power : (k : ℕ) → k < 10 ^ k
lt_power zero = omega arith
lt_power (suc k) = let h = lt_power k in rw pow-suc (omega arith)

-- a number from 10 ^ k on and below 10 ^ (k + 1) has k + 1 digits
pub places_of : (n k : ℕ) → 10 ^ k ≤ n → n < 10 * 10 ^ k → k + 1 ≡ decimal_places n
unfolding decimal_places
places_of n k l h =
    let q : k < 10 ^ k = lt_power k in
    sym (least_is (λ j. ltb n (10 ^ j)) 1 n (k + 1) (omega arith) (omega arith) (lt-ltb n (10 ^ (k + 1)) (rw (add-one, pow-suc) (omega arith)))
    (λ j b a. le-ltb n (10 ^ j) (le_trans (pow-le-pow_right (omega arith) (omega arith)) l)))

pub places_of_zero : (n : ℕ) → n ≡ 0 → 1 ≡ decimal_places n
unfolding decimal_places least_from seek
places_of_zero n e = rw e

pub length_decimal : (n : ℕ) → length (decimal n) ≡ decimal_places n
unfolding decimal
length_decimal n = length_digits 10 (decimal_places n) n
