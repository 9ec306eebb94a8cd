-- What holds of loads, stores and the test of an access, each once for every width. Assumes nothing.
use mathlib.Core.Bool.{Bool, true, false}
use mathlib.Core.List.{List, [], ◌∷◌}
use mathlib.Core.Option.{Option, none, some}
use mathlib.Core.Path.{◌≡◌, refl, sym, ap, ap₂, ◌∙◌}
use Prim.Native.Nat.{ℕ, zero, suc, ◌+◌, ◌*◌, ◌/◌, ◌%◌, ◌^◌, ◌<◌, ◌≤◌}
use native.Mathlib.Nat.{mod-lt, mod-one, pow-le-pow_right, pow-succ'}
use native.Mathlib.Omega.{arith}
use lib.Dec.{ltb}
use borrow.Author.Tests.{lt-ltb, le-ltb, ltb-false}
use lib.Arith.{mod-mul, digits_lt}
use lib.ListN.{length, get_or, set, length-set}
use lib.Seq.{get_or-set_same, get_or-set_other}
use Rattle.std.specs.Prelude.{if◌then◌else◌}
use Rattle.bits.proofs.Cases.{if_both}
use Rattle.isa.specs.declared.vectors.Cause.{Cause}
use Rattle.isa.specs.declared.vectors.Cause.TheVariants.{Bus, Alignment}
use Rattle.memory.specs.Memory.{bytes, loaded, stored, memory_word, no_limit, access}
use Rattle.memory.specs.declared.Width.{Width}
use Rattle.memory.specs.declared.Width.TheVariants.{Byte, Half, Word}

-- the list of a slice of u8 is so
abbrev pub AllBytes : List ℕ → Type 0
AllBytes m = (i : ℕ) → get_or m i 0 < 256

-- ---- a store

pub length_stored : (n : ℕ) (m : List ℕ) (at v : ℕ) → length (stored n m at v) ≡ length m
unfolding stored
length_stored zero m at v = refl
length_stored (suc n) m at v = length-set (stored n m (at + 1) v) at (v / 256 ^ n % 256) ∙ length_stored n m (at + 1) v

-- a byte outside a store stays
pub stored_outside : (n : ℕ) (m : List ℕ) (at v j : ℕ) → (at ≤ j → j < at + n → ⊥) → get_or (stored n m at v) j 0 ≡ get_or m j 0
unfolding stored
stored_outside zero m at v j h = refl
stored_outside (suc n) m at v j h =
    get_or-set_other (stored n m (at + 1) v) at j (v / 256 ^ n % 256) 0 (λ e. h (omega arith) (omega arith))
    ∙ stored_outside n m (at + 1) v j (λ p q. h (omega arith) (omega arith))

bytes_set : (m : List ℕ) (at b : ℕ) → AllBytes m → b < 256 → AllBytes (set m at b)
bytes_set [] at b h g i = h i
bytes_set (x ∷ m) zero b h g zero = g
bytes_set (x ∷ m) zero b h g (suc i) = h (suc i)
bytes_set (x ∷ m) (suc at) b h g zero = h zero
bytes_set (x ∷ m) (suc at) b h g (suc i) = bytes_set m at b (λ j. h (suc j)) g i

-- memory stays a list of bytes
pub stored_bytes : (n : ℕ) (m : List ℕ) (at v : ℕ) → AllBytes m → AllBytes (stored n m at v)
unfolding stored
stored_bytes zero m at v h = h
stored_bytes (suc n) m at v h =
    bytes_set (stored n m (at + 1) v) at (v / 256 ^ n % 256) (stored_bytes n m (at + 1) v h) (mod-lt (v / 256 ^ n) (omega arith))

-- ---- a load

power_pos : (n : ℕ) → 0 < 256 ^ n
power_pos n = pow-le-pow_right {n = 256} (omega arith) {i = 0} {j = n} (omega arith)

pub loaded_bound : (n : ℕ) (m : List ℕ) (at : ℕ) → AllBytes m → loaded n m at < 256 ^ n
unfolding loaded
loaded_bound zero m at h = omega arith
loaded_bound (suc n) m at h = rw (pow-succ' 256 n) (digits_lt (h at) (loaded_bound n m (at + 1) h))

-- a load is settled by its bytes
pub loaded_agrees : (n : ℕ) (m m' : List ℕ) (at : ℕ) → ((j : ℕ) → at ≤ j → j < at + n → get_or m j 0 ≡ get_or m' j 0) → loaded n m at ≡ loaded n m' at
unfolding loaded
loaded_agrees zero m m' at h = refl
loaded_agrees (suc n) m m' at h =
    ap₂ (λ x y. x * 256 ^ n + y) (h at (omega arith) (omega arith)) (loaded_agrees n m m' (at + 1) (λ j p q. h j (omega arith) (omega arith)))

-- ---- a load after a store

-- elsewhere: what was there
pub loaded_elsewhere : (k n : ℕ) (m : List ℕ) (at v b : ℕ) → (at < b + k → b < at + n → ⊥) → loaded k (stored n m at v) b ≡ loaded k m b
loaded_elsewhere k n m at v b h =
    loaded_agrees k (stored n m at v) m b (λ j p q. stored_outside n m at v j (λ r s. h (omega arith) (omega arith)))

-- at the same place: what was stored
pub loaded_stored : (n : ℕ) (m : List ℕ) (at v : ℕ) → at + n ≤ length m → loaded n (stored n m at v) at ≡ v % 256 ^ n
unfolding loaded stored
loaded_stored zero m at v h = sym (mod-one v)
loaded_stored (suc n) m at v h =
    let rest = stored n m (at + 1) v in
    let high = v / 256 ^ n % 256 in
    let l : length rest ≡ length m = length_stored n m (at + 1) v in
    ap₂ (λ x y. x * 256 ^ n + y)
    (get_or-set_same rest at high 0 (omega arith))
    (loaded_agrees n (set rest at high) rest (at + 1) (λ j p q. get_or-set_other rest at j high 0 (λ e. omega arith))
    ∙ loaded_stored n m (at + 1) v (omega arith))
    ∙ sym (ap (λ k. v % k) (pow-succ' 256 n) ∙ mod-mul v {m = 256} {c = 256 ^ n} (omega arith) (power_pos n))

-- a store that lies in one word leaves every other word
pub other_word_kept : (n : ℕ) (m : List ℕ) (at v k : ℕ) → at % 4 + n ≤ 4 → (k ≡ at / 4 → ⊥) → memory_word (stored n m at v) k ≡ memory_word m k
other_word_kept n m at v k h g = loaded_elsewhere 4 n m at v (4 * k) (λ p q. g (omega arith))

-- an aligned access lies in one word
pub aligned_in_word : (w : Width) (at : ℕ) → at % bytes w ≡ 0 → at % 4 + bytes w ≤ 4
aligned_in_word Byte at h = omega arith
aligned_in_word Half at h = omega arith
aligned_in_word Word at h = omega arith

-- ---- the test, case by case

module _ (n limit len at : ℕ) where
  pub misaligned : 0 < at % n → access n limit len at ≡ some Alignment
  unfolding access
  misaligned h = simp (lt-ltb _ _ h)

  pub below_limit : at % n ≡ 0 → at < limit → access n limit len at ≡ some Bus
  unfolding access
  below_limit h i = let a : at % n ≤ 0 = omega arith in simp (le-ltb _ _ a, lt-ltb _ _ i)

  pub bus_error : at % n ≡ 0 → len < at + n → access n limit len at ≡ some Bus
  unfolding access
  bus_error h i =
      let a : at % n ≤ 0 = omega arith in
      rw (le-ltb 0 (at % n) a, lt-ltb len (at + n) i) (if_both (λ (o : Option Cause). o ≡ some Bus) (ltb at limit) refl refl)

  pub granted : at % n ≡ 0 → limit ≤ at → at + n ≤ len → access n limit len at ≡ none
  unfolding access
  granted h l i = let a : at % n ≤ 0 = omega arith in simp (le-ltb _ _ a, le-ltb _ _ l, le-ltb _ _ i)

-- with no limit the test is document 01's
pub unlimited : (n len at : ℕ) → access n no_limit len at ≡ (if ltb 0 (at % n) then some Alignment else (if ltb len (at + n) then some Bus else none))
unfolding access
unlimited n len at = rw (le-ltb at 0 (omega arith))

-- an access that a test refuses is not granted
passes : (b : Bool) (cause : Cause) (o : Option Cause) → (if b then some cause else o) ≡ none → (b ≡ false) × (o ≡ none)
passes true cause o e = absurd (let z : ◌≡◌ {A = ℕ} 0 1 = cc in omega arith)
passes false cause o e = (refl, e)

-- only one that passes all three tests is
module _ (n limit len at : ℕ) (e : access n limit len at ≡ none) where
  passed : (at % n ≤ 0) × ((limit ≤ at) × (at + n ≤ len))
  unfolding access
  passed =
      let a = passes (ltb 0 (at % n)) _ _ e in
      let b = passes (ltb at limit) _ _ a.1 in
      let c = passes (ltb len (at + n)) _ _ b.1 in
      (ltb-false 0 (at % n) a.0, (ltb-false at limit b.0, ltb-false len (at + n) c.0))

  pub granted_aligned : at % n ≡ 0
  granted_aligned = let h : at % n ≤ 0 = passed.0 in omega arith

  pub granted_above : limit ≤ at
  granted_above = passed.1.0

  pub granted_inside : at + n ≤ len
  granted_inside = passed.1.1

pub granted_in_word : (w : Width) (limit len at : ℕ) → access (bytes w) limit len at ≡ none → at % 4 + bytes w ≤ 4
granted_in_word w limit len at e = aligned_in_word w at (granted_aligned (bytes w) limit len at e)
