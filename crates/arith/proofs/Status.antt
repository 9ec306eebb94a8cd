-- The words that SR and ESR may be, and EPCR's. Assumes nothing.
use Rattle.std.proofs.Common.{◌≡◌, ℕ, zero, suc, ◌+◌, ◌*◌, ◌/◌, ◌%◌, ◌^◌, ◌<◌, Bool, true, false, eqb, List, [], ◌∷◌, ◌++◌, sym, refl, ap, ◌∙◌, ap₂, add-mul, one-mul, pow-suc, add-one, arith, shr-shr, eqb-true}
use native.Mathlib.Nat.{mod-one}
use lib.Pow.{mod-pow-add}
use borrow.Author.Tests.{eqb-false}
use Rattle.bits.specs.Word.{bit, bit_at}
use Rattle.arith.specs.Bit.{set_bit}
use Rattle.arith.specs.Status.{SM, TEE, IEE, F, CY, OV, OVE, DSX, status_bits, only, allowed, aligned, set_carry_overflow, exception_sr}
use Rattle.arith.proofs.Bit.{two_digits, get_set, get_other, set_exchange}

-- ---- a bit set that SR may have

-- how often i stands in a list
unfoldable pub times : ℕ → List ℕ → ℕ
times i [] = 0
times i (j ∷ l) = bit (eqb i j) + times i l

only_set : (i : ℕ) (v : Bool) (x : ℕ) (l : List ℕ)
    → only l (set_bit i v x) + times i l * (bit_at i x * 2 ^ i) ≡ only l x + times i l * (bit v * 2 ^ i)
unfolding only times
only_set i v x [] = omega arith
only_set i v x (j ∷ l) = go (only_set i v x l) (eqb i j) refl
  where
    one_more : (n c : ℕ) → (1 + n) * c ≡ c + n * c
    one_more n c = add-mul 1 n c ∙ ap (λ t. t + n * c) (one-mul c)

    go : only l (set_bit i v x) + times i l * (bit_at i x * 2 ^ i) ≡ only l x + times i l * (bit v * 2 ^ i)
        → (t : Bool) → eqb i j ≡ t
        → bit_at j (set_bit i v x) * 2 ^ j + only l (set_bit i v x) + (bit t + times i l) * (bit_at i x * 2 ^ i)
        ≡ bit_at j x * 2 ^ j + only l x + (bit t + times i l) * (bit v * 2 ^ i)
    go ih true e =
        let s : i ≡ j = eqb-true i j e in
        let a : bit_at j (set_bit i v x) * 2 ^ j ≡ bit v * 2 ^ i = ap (λ k. bit_at k (set_bit i v x) * 2 ^ k) (sym s) ∙ ap (λ b. b * 2 ^ i) (get_set i v x) in
        let b : bit_at j x * 2 ^ j ≡ bit_at i x * 2 ^ i = ap (λ k. bit_at k x * 2 ^ k) (sym s) in
        let c = one_more (times i l) (bit_at i x * 2 ^ i) in
        let d = one_more (times i l) (bit v * 2 ^ i) in
        omega arith
    go ih false e =
        let a : bit_at j (set_bit i v x) * 2 ^ j ≡ bit_at j x * 2 ^ j = ap (λ b. b * 2 ^ j) (get_other i v x j (eqb-false i j e)) in
        omega arith

pub allowed_set : (i : ℕ) (v : Bool) (x : ℕ) → times i status_bits ≡ 1 → allowed x ≡ x → allowed (set_bit i v x) ≡ set_bit i v x
unfolding allowed
allowed_set i v x once e =
    let s : only status_bits (set_bit i v x) + 1 * (bit_at i x * 2 ^ i) ≡ only status_bits x + 1 * (bit v * 2 ^ i) = rw once at (only_set i v x status_bits) in
    let t = set_exchange i v x in
    omega arith

module _ (x : ℕ) (e : allowed x ≡ x) where
  pub allowed_flag : (v : Bool) → allowed (set_bit F v x) ≡ set_bit F v x
  unfolding times
  allowed_flag v = allowed_set F v x refl e

  pub allowed_carry_overflow : (cy ov : Bool) → allowed (set_carry_overflow cy ov x) ≡ set_carry_overflow cy ov x
  unfolding times
  allowed_carry_overflow cy ov = allowed_set OV ov (set_bit CY cy x) refl (allowed_set CY cy x refl e)

  pub allowed_exception : (slot : Bool) → allowed (exception_sr slot x) ≡ exception_sr slot x
  unfolding times exception_sr
  allowed_exception slot =
      allowed_set SM true _ refl
      (allowed_set TEE false _ refl
      (allowed_set IEE false _ refl (allowed_set OVE false _ refl (allowed_set DSX slot x refl e))))

-- ---- what a write leaves

-- k places from low up
run : ℕ → ℕ → List ℕ
run low zero = []
run low (suc k) = low ∷ run (suc low) k

only_run : (x low k : ℕ) → only (run low k) x ≡ x / 2 ^ low % 2 ^ k * 2 ^ low
unfolding only run
only_run x low zero =
    let z : 0 ≡ 0 * 2 ^ low = omega arith in
    z ∙ ap (λ n. n * 2 ^ low) (sym (mod-one (x / 2 ^ low)))
only_run x low (suc k) =
    let n = x / 2 ^ low in
    let q = x / 2 ^ suc low % 2 ^ k in
    let ih : only (run (suc low) k) x ≡ q * 2 ^ suc low = only_run x (suc low) k in
    let m : n % 2 ^ suc k ≡ q * 2 + bit_at low x =
    ap (λ t. n % 2 ^ t) (sym (add-one k))
    ∙ mod-pow-add n k 1
    ∙ ap (λ t. t % 2 ^ k * 2 + n % 2) (shr-shr x low 1 ∙ ap (λ t. x / 2 ^ t) (add-one low)) in
    let d = two_digits q (2 ^ low) (bit_at low x) in
    let p : q * 2 ^ suc low ≡ q * (2 ^ low * 2) = ap (λ t. q * t) (pow-suc 2 low) in
    let r : n % 2 ^ suc k * 2 ^ low ≡ (q * 2 + bit_at low x) * 2 ^ low = ap (λ t. t * 2 ^ low) m in
    omega arith

only_append : (x : ℕ) (l m : List ℕ) → only (l ++ m) x ≡ only l x + only m x
unfolding only
only_append x [] m = omega arith
only_append x (i ∷ l) m = let ih : only (l ++ m) x ≡ only l x + only m x = only_append x l m in omega arith

-- bits 0 to 2 and 9 to 13, which is what the code keeps
pub allowed_fields : (x : ℕ) → allowed x ≡ 2 ^ 15 + x / 2 ^ 9 % 2 ^ 5 * 2 ^ 9 + x % 2 ^ 3
unfolding allowed run
allowed_fields x =
    let a : only (run 0 3 ++ run 9 5) x ≡ only (run 0 3) x + only (run 9 5) x = only_append x (run 0 3) (run 9 5) in
    let b : only (run 0 3) x ≡ x / 1 % 2 ^ 3 * 1 = only_run x 0 3 in
    let c : only (run 9 5) x ≡ x / 2 ^ 9 % 2 ^ 5 * 2 ^ 9 = only_run x 9 5 in
    omega arith

pub allowed_again : (x : ℕ) → allowed (allowed x) ≡ allowed x
allowed_again x =
    let u = x / 2 ^ 9 % 2 ^ 5 in
    let v = x % 2 ^ 3 in
    allowed_fields (allowed x)
    ∙ ap₂ (λ m n. 2 ^ 15 + m * 2 ^ 9 + n)
    (ap (λ n. n / 2 ^ 9 % 2 ^ 5) (allowed_fields x) ∙ upper u v (omega arith) (omega arith))
    (ap (λ n. n % 2 ^ 3) (allowed_fields x) ∙ lower u v (omega arith))
    ∙ sym (allowed_fields x)
  where
    upper : (u v : ℕ) → u < 2 ^ 5 → v < 2 ^ 3 → (2 ^ 15 + u * 2 ^ 9 + v) / 2 ^ 9 % 2 ^ 5 ≡ u
    upper u v hu hv = omega arith

    lower : (u v : ℕ) → v < 2 ^ 3 → (2 ^ 15 + u * 2 ^ 9 + v) % 2 ^ 3 ≡ v
    lower u v hv = omega arith

-- ---- EPCR

pub aligned_multiple : (x : ℕ) → aligned x % 4 ≡ 0
aligned_multiple x = omega arith
