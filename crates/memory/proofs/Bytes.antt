-- What the code does, once for every width: alignment by a mask, a number that is its own extension, and a store of several bytes at once. Assumes nothing.
use Rattle.std.proofs.Common.{◌≡◌, ℕ, zero, suc, ◌+◌, ◌-◌, ◌*◌, ◌/◌, ◌%◌, ◌^◌, ◌<◌, ◌≤◌, List, [], ◌∷◌, ◌++◌, length, get_or, take, drop, set, Bool, false, refl, sym, ap, ◌∙◌, arith, append_assoc, mod-eq_of_lt, ap₂, length-take-le, take-append-drop, drop-drop}
use native.Mathlib.Nat.{div-one}
use native.Mathlib.Numerals.{add-one}
use borrow.Rule.Slice.PartMut.{put_mid}
use lib.Bits.{bit_and, and_mask}
use lib.Seq.{take-suc, set-append_seam}
use Rattle.std.specs.Int.{byte_at, bytes_high_first}
use Rattle.bits.specs.Word.{extend}
use Rattle.bits.proofs.Extend.{extend_word}
use Rattle.memory.specs.Memory.{bytes, stored}
use Rattle.memory.specs.declared.Width.{Width}
use Rattle.memory.specs.declared.Width.TheVariants.{Byte, Half, Word}

-- a width is a power of 2
pub mask_aligned : (w : Width) (at : ℕ) → bit_and at (bytes w - 1) ≡ at % bytes w
mask_aligned Byte at = and_mask at 0
mask_aligned Half at = and_mask at 1
mask_aligned Word at = and_mask at 2

-- zeros above a number are its own
pub zeros_above : (w : Width) (x : ℕ) → x < 256 ^ bytes w → extend false (8 * bytes w) x ≡ x
unfolding extend
zeros_above Byte x h = mod-eq_of_lt h
zeros_above Half x h = mod-eq_of_lt h
zeros_above Word x h = mod-eq_of_lt h

-- a word is its own extension
pub word_whole : (s : Bool) (w : Width) (x : ℕ) → w ≡ Word → x < 256 ^ bytes w → extend s (8 * bytes w) x ≡ x
word_whole s Byte x e h = absurd cc
word_whole s Half x e h = absurd cc
word_whole s Word x e h = extend_word s x h

byte_is : (n v : ℕ) → byte_at n v ≡ v / 256 ^ n % 256
byte_is zero v = rw (div-one v)
byte_is (suc n) v = refl

-- a byte written before those that were
put_before : (m t : List ℕ) (at b : ℕ) → at < length m → set (take (at + 1) m ++ t) at b ≡ take at m ++ (b ∷ t)
put_before m t at b h =
    let y = get_or m at 0 in
    let here : length (take at m) ≡ at = length-take-le at m (omega arith) in
    let front : take (at + 1) m ++ t ≡ take at m ++ (y ∷ t) = ap (λ l. l ++ t) (ap (λ k. take k m) (add-one at) ∙ take-suc m at 0 h) ∙ append_assoc (take at m) (y ∷ []) t in
    ap (λ l. set l at b) front ∙ ap (λ k. set (take at m ++ (y ∷ t)) k b) (sym here) ∙ set-append_seam (take at m) y t b

-- the bytes of v, the highest first, in the place of as many
pub bytes_put : (n : ℕ) (m : List ℕ) (at v : ℕ) → at + n ≤ length m → put_mid at n m (bytes_high_first n v) ≡ stored n m at v
unfolding stored
bytes_put zero m at v h = take-append-drop at m
bytes_put (suc n) m at v h =
    let rest : drop (suc n) (drop at m) ≡ drop n (drop (at + 1) m) = drop-drop (suc n) at m ∙ ap (λ k. drop k m) (let e : at + suc n ≡ at + 1 + n = omega arith in e) ∙ sym (drop-drop n (at + 1) m) in
    let later = bytes_put n m (at + 1) v (omega arith) in
    sym
    (ap (λ l. set l at (v / 256 ^ n % 256)) (sym later)
    ∙ put_before m (bytes_high_first n v ++ drop n (drop (at + 1) m)) at (v / 256 ^ n % 256) (omega arith)
    ∙ ap₂ (λ b l. take at m ++ (b ∷ (bytes_high_first n v ++ l))) (sym (byte_is n v)) (sym rest))

-- the same of a part that holds them
pub part_put : (n k : ℕ) (m ys : List ℕ) (at v : ℕ) → k ≡ n → at + n ≤ length m → ys ≡ bytes_high_first n v → put_mid at k m ys ≡ stored n m at v
part_put n k m ys at v e h is = rw (e, is) (bytes_put n m at v h)
