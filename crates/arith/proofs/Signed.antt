-- The library's casts between u32 and i32 are the signed number of a word, and the word of a signed number. Assumes nothing.
use Rattle.std.proofs.Common.{◌≡◌, ℕ, suc, ◌-◌, ◌^◌, ◌<◌, ◌≤◌, Bool, true, false, not, ◌&&◌, ltb, leb, refl, ℤ, pos, negsuc, ap, ◌∙◌, mod-eq_of_lt, lt-ltb, le-ltb, arith, sym}
use lib.Signed.{mag, shr_z, mag_shr}
use mir.Syntax.{w32, w64}
use mir.Val.{to_z, of_z, SFits}
use Rattle.std.proofs.Math.Facts.{of_z-to_z, to_z-of_z}
use Rattle.std.specs.Bool.{FalseIff}
use Rattle.bits.specs.Word.{signed, modulo, word}
use Rattle.bits.proofs.Extend.{signed_low, signed_high, by_half}
use Rattle.arith.specs.Sums.{fits}
use Rattle.arith.proofs.Integer.{leb_same}

pub cast_signed : (x : ℕ) → x < 2 ^ 32 → to_z w32 x ≡ signed 32 x
cast_signed x h =
    let a = mod-eq_of_lt h in
    by_half 32 x (omega arith) (to_z w32 x ≡ signed 32 x)
    (λ l. let k : x < 2 ^ 31 = omega arith in rw (lt-ltb _ _ k, signed_low 32 x (omega arith) l, a))
    (λ l. let k : 2 ^ 31 ≤ x = omega arith in rw (le-ltb _ _ k, signed_high 32 x (omega arith) l, a))

-- the same, written and read back, as an operation of i32 does
pub cast_back : (x : ℕ) (r : ℤ) → x < 2 ^ 32 → r ≡ to_z w32 x → to_z w32 (of_z w32 r) ≡ signed 32 x
cast_back x r h e = ap (λ z. to_z w32 (of_z w32 z)) e ∙ ap (to_z w32) (of_z-to_z {w = w32} (record { fits = h })) ∙ cast_signed x h

pub cast_again : (x : ℕ) (r : ℤ) → x < 2 ^ 32 → r ≡ to_z w32 x → of_z w32 (to_z w32 (of_z w32 r)) ≡ x
cast_again x r h e =
    let f : of_z w32 (to_z w32 x) ≡ x = of_z-to_z {w = w32} (record { fits = h }) in
    ap (λ z. of_z w32 (to_z w32 (of_z w32 z))) e ∙ ap (λ n. of_z w32 (to_z w32 n)) f ∙ f

-- an i64 as a u64
pub cast_wide : (z : ℤ) → SFits w64 z → of_z w64 (to_z w64 (of_z w64 z)) ≡ modulo 64 z
cast_wide z f = ap (of_z w64) (to_z-of_z {w = w64} f) ∙ whole z f
  where
    whole : (z : ℤ) → SFits w64 z → of_z w64 z ≡ modulo 64 z
    whole (pos n) f = let h = f.sfits in omega arith
    whole (negsuc n) f = let h = f.sfits in omega arith

pub cast_word : (z : ℤ) → mag z < 2 ^ 32 → of_z w32 z ≡ word z
unfolding word
cast_word (pos n) h = sym (mod-eq_of_lt h)
cast_word (negsuc n) h = omega arith

pub word_lt : (z : ℤ) → word z < 2 ^ 32
unfolding word
word_lt (pos n) = omega arith
word_lt (negsuc n) = omega arith

-- what 32 bits hold is what i32 holds
fits_mag : (z : ℤ) → fits z ≡ ltb (mag z) (2 ^ 31)
unfolding fits
fits_mag (pos n) = refl
fits_mag (negsuc n) =
    and_true (leb n (2 ^ 31 - 1)) ∙ leb_same n (2 ^ 31 - 1) (suc n) (2 ^ 31) (λ h. omega arith) (λ h. omega arith)
  where
    and_true : (t : Bool) → t && true ≡ t
    and_true true = refl
    and_true false = refl

pub overflowed : (z : ℤ) (u : Bool) → FalseIff u (SFits w32 z) → u ≡ not (fits z)
overflowed z true p =
    let n : mag z < 2 ^ 31 → ⊥ = λ h. p (record { sfits = h }) in
    let k : 2 ^ 31 ≤ mag z = omega arith in
    rw (fits_mag z, le-ltb _ _ k)
overflowed z false p = let h = p.sfits in rw (fits_mag z, lt-ltb _ _ h)

pub signed_mag : (x : ℕ) → x < 2 ^ 32 → mag (signed 32 x) < 2 ^ 31
signed_mag x h =
    let a = mod-eq_of_lt h in
    by_half 32 x (omega arith) (mag (signed 32 x) < 2 ^ 31)
    (λ l. rw (signed_low 32 x (omega arith) l) l)
    (λ l. rw (signed_high 32 x (omega arith) l) (omega arith))

-- the signed number of a word, shifted as an i32 is
pub shifted : (x k : ℕ) (r : ℤ) → x < 2 ^ 32 → r ≡ to_z w32 x → of_z w32 (to_z w32 (of_z w32 (shr_z (to_z w32 (of_z w32 r)) (2 ^ k)))) ≡ word (shr_z (signed 32 x) (2 ^ k))
shifted x k r h e =
    let p = 2 ^ k in
    let z = shr_z (signed 32 x) p in
    let f : mag (signed 32 x) < 2 ^ 31 = signed_mag x h in
    let l = mag_shr (signed 32 x) p in
    let g : SFits w32 z = record { sfits = omega (arith, f, l) } in
    ap (λ y. of_z w32 (to_z w32 (of_z w32 (shr_z y p)))) (cast_back x r h e)
    ∙ ap (of_z w32) (to_z-of_z {w = w32} g)
    ∙ cast_word z (omega (arith, f, l))
