-- An access is one to its first bytes and one to the rest. Assumes nothing.
use mathlib.Core.List.{List}
use mathlib.Core.Path.{◌≡◌, refl, sym, ap, ap₂, ◌∙◌}
use Prim.Native.Nat.{ℕ, zero, suc, ◌+◌, ◌*◌, ◌/◌, ◌^◌, ◌<◌}
use native.Mathlib.Nat.{add-mul, mul_assoc, mul_comm, zero-mul, add-zero, zero-add, suc-add, add_assoc, div-div-eq-div-mul}
use native.Mathlib.Omega.{arith}
use lib.Arith.{digits_lt}
use lib.Pow.{pow-add}
use Rattle.memory.specs.Memory.{bytes, loaded, stored}
use Rattle.memory.specs.declared.Width.{Width}
use Rattle.memory.specs.declared.Width.TheVariants.{Byte, Half, Word}

-- the first i bytes, then j more
load_join : (i j : ℕ) (m : List ℕ) (at : ℕ) → loaded (i + j) m at ≡ loaded i m at * 256 ^ j + loaded j m (at + i)
unfolding loaded
load_join zero j m at = simp (zero-add, zero-mul, add-zero)
load_join (suc i) j m at =
    let e : at + 1 + i ≡ at + suc i = omega arith in
    rw (suc-add, pow-add 256 i j, load_join i j m (at + 1), e) (simp (add-mul, mul_assoc, add_assoc))

-- the last j bytes, then the i before them
store_join : (i j : ℕ) (m : List ℕ) (at v : ℕ) → stored i (stored j m (at + i) v) at (v / 256 ^ j) ≡ stored (i + j) m at v
unfolding stored
store_join zero j m at v = simp (zero-add, add-zero)
store_join (suc i) j m at v =
    let e : at + suc i ≡ at + 1 + i = omega arith in
    rw (suc-add, e, store_join i j m (at + 1) v, div-div-eq-div-mul, mul_comm (256 ^ j) (256 ^ i), pow-add 256 i j)

-- two loads of n bytes make one of n + n
pub load_halves :
    (n : ℕ) (m : List ℕ) (at high low : ℕ)
    → (high ≡ loaded n m at) × (high < 256 ^ n)
    → (low ≡ loaded n m (at + n)) × (low < 256 ^ n)
    → (high * 256 ^ n + low ≡ loaded (n + n) m at) × (high * 256 ^ n + low < 256 ^ (n + n))
load_halves n m at high low h l =
    (ap₂ (λ x y. x * 256 ^ n + y) h.0 l.0 ∙ sym (load_join n n m at), rw (pow-add 256 n n) (digits_lt h.1 l.1))

-- two stores of n bytes, the low half first, make one of n + n
pub store_halves :
    (n : ℕ) (m m₁ m₂ : List ℕ) (at v : ℕ)
    → m₁ ≡ stored n m (at + n) v
    → m₂ ≡ stored n m₁ at (v / 256 ^ n)
    → m₂ ≡ stored (n + n) m at v
store_halves n m m₁ m₂ at v l h = h ∙ ap (λ x. stored n x at (v / 256 ^ n)) l ∙ store_join n n m at v

-- a byte is eight bits
pub bytes_bits : (w : Width) → 256 ^ bytes w ≡ 2 ^ (8 * bytes w)
bytes_bits Byte = refl
bytes_bits Half = refl
bytes_bits Word = refl
