-- Laws of what is stored one after another: the words of memory, schedules and states. Assumes nothing.
use Prim.Native.Nat.{ℕ, zero, suc, ◌+◌, ◌-◌, ◌*◌, ◌/◌, ◌%◌, ◌^◌, ◌≤◌, ◌<◌}
use mathlib.Core.Path.{◌≡◌, refl, ap, sym, ◌∙◌}
use mathlib.Core.Bool.{Bool, true, false}
use mathlib.Core.List.{List, [], ◌∷◌, ◌++◌, map, append_assoc}
use native.Mathlib.Numerals.{add-one}
use native.Mathlib.Omega.{arith}
use native.Mathlib.Nat.{not-suc-le-zero, mod-lt}
use borrow.Author.Tests.{eq-eqb, ne_eqb, ltb-true, ltb-false}
use lib.Dec.{T, ltb}
use lib.ListN.{get_or-append, length, take, drop, get_or, set, replicate, length-append, length-drop, length-replicate, length-map}
use borrow.Rule.Slice.PartMut.{put_mid}
use lib.Seq.{get_or-append-add, sets, sets-eq, drop-drop, length-take-le, set-append_left}
use Rattle.std.proofs.lemmas.List.{get_or-map}
use Rattle.std.proofs.lemmas.List.Folds.{list_all-append}
use Rattle.bits.proofs.Tests.{and_both}
use Rattle.text.specs.Ascii.{ascii}
use Rattle.text.specs.Digits.{digit}
use Rattle.text.specs.Lines.{Line, lines}
use Rattle.text.proofs.Stores.{sets_next, sets_append, sets_front}
use Rattle.memory.specs.Memory.{stored}
use Rattle.memory.proofs.Laws.{length_stored}
use Rattle.effect.specs.State.{state_words}
use Rattle.card.specs.Card.{Job, Verdict, good, refused, image_fault, card_says, step, stop, first, word}
use Rattle.std.specs.List.{list_all}
use Rattle.card.specs.Answer.{words_from}
use Rattle.card.proofs.Laws.{every_get_d}
use Rattle.card.specs.Inner.{step_in}
use Rattle.card.specs.declared.Cause.{Cause}
use Rattle.std.specs.Prelude.{Result, Ok, Err}
use Rattle.job.specs.Job.{reading, filled, memory_of, image_after, image_length, entries, reset_state, reset_states}

-- ---- the words of memory

pub fill_none : (m : List ℕ) (at : ℕ) → filled m at [] ≡ m
unfolding filled
fill_none m at = refl

pub fill_step : (m : List ℕ) (at w : ℕ) (ws : List ℕ) → filled m at (w ∷ ws) ≡ filled (stored 4 m at w) (at + 4) ws
unfolding filled
fill_step m at w ws = refl

pub length_filled : (m : List ℕ) (at : ℕ) (ws : List ℕ) → length (filled m at ws) ≡ length m
unfolding filled
length_filled m at [] = refl
length_filled m at (w ∷ ws) = length_filled (stored 4 m at w) (at + 4) ws ∙ length_stored 4 m at w

-- stores into the first of two lists
stored_first : (n : ℕ) (s t : List ℕ) (at v : ℕ) → at + n ≤ length s → stored n (s ++ t) at v ≡ stored n s at v ++ t
unfolding stored
stored_first zero s t at v h = refl
stored_first (suc n) s t at v h =
    let l : length (stored n s (at + 1) v) ≡ length s = length_stored n s (at + 1) v in
    let x : ℕ = v / 256 ^ n % 256 in
    ap (λ m. set m at x) (stored_first n s t (at + 1) v (omega arith)) ∙ set-append_left (stored n s (at + 1) v) t at x (omega arith)

filled_first : (s t : List ℕ) (at : ℕ) (ws : List ℕ) → at + 4 * length ws ≤ length s → filled (s ++ t) at ws ≡ filled s at ws ++ t
unfolding filled
filled_first s t at [] h = refl
filled_first s t at (w ∷ ws) h =
    let l : length (stored 4 s at w) ≡ length s = length_stored 4 s at w in
    ap (λ m. filled m (at + 4) ws) (stored_first 4 s t at w (omega arith)) ∙ filled_first (stored 4 s at w) t (at + 4) ws (omega arith)

-- a memory at the start of an image, filled there
pub filled_image : (image s ws : List ℕ) → length s ≤ length image → 4 * length ws ≤ length s → filled (s ++ drop (length s) image) 0 ws ≡ sets image 0 (filled s 0 ws)
filled_image image s ws h g =
    let l : length (filled s 0 ws) ≡ length s = length_filled s 0 ws in
    filled_first s (drop (length s) image) 0 ws (omega arith)
    ∙ ap (λ n. filled s 0 ws ++ drop n image) (sym l)
    ∙ sym (sets_front image (filled s 0 ws) (omega arith))

pub length_memory : (j : Job) → length (memory_of j) ≡ j.memory
length_memory j = length_filled (replicate j.memory 0) 0 j.words ∙ length-replicate j.memory 0

from_step : (n : ℕ) (ls : List Line) {w : ℕ} {rest : List Line} → 0 < n → first (ascii "w=") word ls ≡ step w rest → words_from n ls ≡ w ∷ words_from (n - 1) rest
unfolding words_from
from_step zero ls h e = absurd (not-suc-le-zero h)
from_step (suc n) ls h e = let m : suc n - 1 ≡ n = omega arith in simp (e, m)

from_stop : (n : ℕ) (ls : List Line) {f : ℕ} → first (ascii "w=") word ls ≡ stop f → words_from n ls ≡ []
unfolding words_from
from_stop zero ls e = refl
from_stop (suc n) ls e = simp e

-- the words of the lines from a place on, one by one
module _ (n : ℕ) (card : List ℕ) (at : ℕ) {r : Result (ℕ × ℕ) Cause} (s : step_in card r ≡ first (ascii "w=") word (lines (drop at card))) where
  pub from_value : {w next : ℕ} → 0 < n → r ≡ Ok (w, next) → words_from n (lines (drop at card)) ≡ w ∷ words_from (n - 1) (lines (drop next card))
  from_value h e = from_step n (lines (drop at card)) h (sym s ∙ ap (step_in card) e)

  pub from_fault : {c : Cause} → r ≡ Err c → words_from n (lines (drop at card)) ≡ []
  from_fault e = from_stop n (lines (drop at card)) (sym s ∙ ap (step_in card) e)

pub from_none : (n : ℕ) (ls : List Line) → n ≤ 0 → words_from n ls ≡ []
unfolding words_from
from_none zero ls h = refl
from_none (suc n) ls h = absurd (not-suc-le-zero h)

-- ---- the schedule

pub length_entries : (s : List ℕ) (n : ℕ) → length (entries s n) ≡ n
unfolding entries
length_entries s zero = refl
length_entries s (suc n) = let e = length_entries s n in simp (length-append, e) (omega arith)

-- one step more
pub entries_step : (l s : List ℕ) (i : ℕ) → set (sets l 0 (entries s i)) i (get_or s (i % length s) 0) ≡ sets l 0 (entries s (i + 1))
unfolding entries
entries_step l s i = sets_next l (entries s i) (get_or s (i % length s) 0) (length_entries s i) ∙ ap (λ k. sets l 0 (entries s k)) (sym (add-one i))

-- if each of a schedule's numbers passes a test, each step's does: with Sound's cores-named, each names a core
pub every_entry : (f : ℕ → Bool) (s : List ℕ) (n : ℕ) → 0 < length s → T (list_all f s) → T (list_all f (entries s n))
unfolding entries
every_entry f s zero h t = tt
every_entry f s (suc n) h t =
    let v : ℕ = get_or s (n % length s) 0 in
    rw (list_all-append f (entries s n) (v ∷ [])) (and_both (list_all f (entries s n)) (list_all f (v ∷ [])) (every_entry f s n h t) (and_both (f v) true (every_get_d f s (n % length s) (mod-lt n h) t) tt))

-- the digit that a step takes
pub digit_at : (card : List ℕ) (from n i : ℕ) → 0 < n → from + n ≤ length card
    → get_or (map digit (take n (drop from card))) (i % length (map digit (take n (drop from card)))) 0 ≡ digit (get_or (take n (drop from card)) (i % n) 0)
digit_at card from n i h k =
    let t : List ℕ = take n (drop from card) in
    let m : length t ≡ n = length-take-le n (drop from card) (simp length-drop (omega arith)) in
    let e : length (map digit t) ≡ n = length-map t digit ∙ m in
    rw e (get_or-map digit t (i % n) 0 0 (rw m (mod-lt i h)))

-- ---- the states

pub length_states : (entry sr n : ℕ) → length (reset_states entry sr n) ≡ n * state_words
unfolding reset_states
length_states entry sr zero = refl
length_states entry sr (suc n) = let e = length_states entry sr n in simp (length-append, e) (omega arith)

-- each core's state is the reset state
pub word_reset : (entry sr n i : ℕ) → i < n * state_words → get_or (reset_states entry sr n) i 0 ≡ get_or (reset_state entry sr) (i % state_words) 0
unfolding reset_states
word_reset entry sr zero i h = absurd (omega arith)
word_reset entry sr (suc n) i h = reset_or (ltb i (length (reset_states entry sr n))) refl (word_reset entry sr n i)
  where
    reset_or : (b : Bool) → ltb i (length (reset_states entry sr n)) ≡ b
        → (i < n * state_words → get_or (reset_states entry sr n) i 0 ≡ get_or (reset_state entry sr) (i % state_words) 0)
        → get_or (reset_states entry sr n ++ reset_state entry sr) i 0 ≡ get_or (reset_state entry sr) (i % state_words) 0
    reset_or true e ih =
        let k : i < length (reset_states entry sr n) = ltb-true _ _ e in
        let l : length (reset_states entry sr n) ≡ n * state_words = length_states entry sr n in
        get_or-append (reset_states entry sr n) (reset_state entry sr) 0 i k ∙ ih (omega arith)
    reset_or false e ih =
        let k : length (reset_states entry sr n) ≤ i = ltb-false _ _ e in
        let l : length (reset_states entry sr n) ≡ n * state_words = length_states entry sr n in
        let m : i ≡ length (reset_states entry sr n) + i % state_words = omega arith in
        ap (λ j. get_or (reset_states entry sr n ++ reset_state entry sr) j 0) m ∙ get_or-append-add (reset_states entry sr n) (reset_state entry sr) (i % state_words) 0

-- one state more
pub reset_step : (l : List ℕ) (entry sr i : ℕ) → sets (sets l 0 (reset_states entry sr i)) (i * state_words) (reset_state entry sr) ≡ sets l 0 (reset_states entry sr (i + 1))
unfolding reset_states
reset_step l entry sr i =
    let m : i * state_words ≡ 0 + length (reset_states entry sr i) = omega (arith, length_states entry sr i) in
    ap (λ k. sets (sets l 0 (reset_states entry sr i)) k (reset_state entry sr)) m
    ∙ sym (sets_append l 0 (reset_states entry sr i) (reset_state entry sr))
    ∙ ap (λ k. sets l 0 (reset_states entry sr k)) (sym (add-one i))

-- a part that is written over
pub put_sets : (a k : ℕ) (xs ys : List ℕ) → length ys ≡ k → a + k ≤ length xs → put_mid a k xs ys ≡ sets xs a ys
put_sets a k xs ys e h =
    ap (λ d. take a xs ++ (ys ++ d)) (drop-drop k a xs ∙ ap (λ n. drop (a + n) xs) (sym e))
    ∙ sym (append_assoc (take a xs) ys (drop (a + length ys) xs))
    ∙ sym (sets-eq ys xs a (omega arith))

-- ---- the answer and the image, by the image's length and by the card

module _ (card image : List ℕ) where
  pub wrong_image : (length image ≡ image_length → ⊥) → reading card image ≡ refused image_fault 0
  unfolding reading
  wrong_image n = simp (ne_eqb _ _ n)

  pub right_image : length image ≡ image_length → reading card image ≡ card_says card
  unfolding reading
  right_image e = simp (eq-eqb _ _ e)

pub image_kept : {v : Verdict Job} {f n : ℕ} (image : List ℕ) → v ≡ refused f n → image_after v image ≡ image
unfolding image_after
image_kept image e = simp e

pub image_laid : {v : Verdict Job} {j : Job} (image : List ℕ) → v ≡ good j → image_after v image ≡ sets image 0 (memory_of j)
unfolding image_after
image_laid image e = simp e
