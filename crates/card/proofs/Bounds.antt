-- What every good card's job keeps to, by the definitions alone. Assumes nothing.
use Prim.Native.Nat.{ℕ, zero, suc, ◌+◌, ◌-◌, ◌/◌, ◌%◌, ◌≤◌, ◌<◌}
use Prim.Native.String.{String}
use mathlib.Core.Path.{◌≡◌, refl, ap, ap₂, sym, subst, ◌∙◌}
use mathlib.Core.Bool.{Bool, true, false, ◌&&◌}
use mathlib.Core.List.{List, [], ◌∷◌, map}
use native.Mathlib.Omega.{arith}
use borrow.Author.Tests.{leb-true, eqb-true}
use lib.Dec.{T, eqb, ltb, leb}
use lib.ListN.{length, take, drop, length-map, length-drop}
use lib.Seq.{length-take-le}
use Rattle.std.specs.Prelude.{if◌then◌else◌}
use Rattle.bits.proofs.Tests.{and_left, and_right, of_T, T_of}
use Rattle.arith.specs.Status.{allowed}
use Rattle.text.specs.Ascii.{ascii}
use Rattle.text.specs.Digits.{digit}
use Rattle.text.specs.Numbers.{within, decimal, hexadecimal}
use Rattle.text.specs.Lines.{Line, lines}
use Rattle.text.specs.Inner.{line_end, after_lines}
use Rattle.std.specs.Prelude.{Option, Some, None}
use Rattle.text.proofs.Laws.{text_at}
use Rattle.card.specs.Card.{Field, value, fault, tested, limited, status, schedule, word, digits_below, Step, step, stop, first, onward, line, word_lines, no_line_left, content, card_says, Left, Verdict, good, refused, Job, form_fault, value_fault, max_card, max_word, max_cores, min_memory, max_memory, max_steps, max_digits}
use Rattle.std.specs.List.{list_all}
use Rattle.card.specs.Answer.{header_lines, before_schedule, placed, answered, more, words_from, job, job_at, Sound, Bounds}
use Rattle.card.specs.Inner.{left}
use Rattle.card.specs.declared.Job as code
use Rattle.card.proofs.Whole.{by_place}

pub never : {A B : Type 0} {f n : ℕ} {j : B} → refused f n ≡ good j → A
never e = absurd (let z : ◌≡◌ {A = ℕ} 0 1 = cc in omega arith)

pub no_value : {A B : Type 0} {f : ℕ} {v : B} → fault f ≡ value v → A
no_value e = absurd (let z : ◌≡◌ {A = ℕ} 0 1 = cc in omega arith)

-- the line after i others of a good card has a text that means a value, and what follows is good
by_line : {A P : Type 0} (key : String) (f : List ℕ → Field A) (card : List ℕ) (i : ℕ) (k : A → Left → Verdict Job) {j : Job}
    → line key f (left card (after_lines card i) (suc i)) k ≡ good j
    → ((v : A) → f (text_at (ascii key) card (after_lines card i)) ≡ value v → after_lines card i + length (ascii key) ≤ line_end card (after_lines card i)
    → line_end card (after_lines card i) < length card → k v (left card (line_end card (after_lines card i) + 1) (suc i + 1)) ≡ good j → P)
    → P
by_line {P = P} key f card i k {j} e go = by_place (λ s. onward (suc i) s k ≡ good j → P) (ascii key) f card (after_lines card i) (λ m e. never e) go e

-- a number that passed a test
tested_if : (f : ℕ → Bool) (v : ℕ) {w : ℕ} (b : Bool) → f v ≡ b → ◌≡◌ {A = Field ℕ} (if b then value v else fault value_fault) (value w) → T (f w)
tested_if f v {w} true p e = let s : v ≡ w = cc in let t : T (f v) = T_of (f v) p in rw s at t
tested_if f v false p e = no_value e

tested_value : (f : ℕ → Bool) (p : Option ℕ) {w : ℕ} → tested f p ≡ value w → T (f w)
tested_value f (Some v) e = tested_if f v (f v) refl e
tested_value f None e = no_value e

pub record Within (low high m v : ℕ) : Type 0 where
  pub above : low ≤ v
  pub below : v ≤ high
  pub multiple : v % m ≡ 0

pub limited_value : (low high m : ℕ) (p : Option ℕ) {w : ℕ} → limited low high m p ≡ value w → Within low high m w
limited_value low high m p {w} e =
    let t = tested_value (λ v. within low high v && eqb (v % m) 0) p e in
    let b = eqb (w % m) 0 in
    let k = and_left (within low high w) b t in
    record {
      above = leb-true _ _ (of_T _ (and_left (leb low w) (leb w high) k));
      below = leb-true _ _ (of_T _ (and_right (leb low w) (leb w high) k));
      multiple = eqb-true _ _ (of_T b (and_right (within low high w) b t));
    }

-- a line with a number: how it is written, and its limits
by_number : {P : Type 0} (key : String) (parse : List ℕ → Option ℕ) (low high m : ℕ) (card : List ℕ) (i : ℕ) (k : ℕ → Left → Verdict Job) {j : Job}
    → line key (λ t. limited low high m (parse t)) (left card (after_lines card i) (suc i)) k ≡ good j
    → ((v : ℕ) → Within low high m v → k v (left card (line_end card (after_lines card i) + 1) (suc i + 1)) ≡ good j → P) → P
by_number key parse low high m card i k e go =
    let text = parse (text_at (ascii key) card (after_lines card i)) in
    by_line key (λ t. limited low high m (parse t)) card i k e (λ v s _ _ e. go v (limited_value low high m text s) e)

-- the line with the SR
by_status : {P : Type 0} (key : String) (card : List ℕ) (i : ℕ) (k : ℕ → Left → Verdict Job) {j : Job}
    → line key status (left card (after_lines card i) (suc i)) k ≡ good j
    → ((v : ℕ) → allowed v ≡ v → k v (left card (line_end card (after_lines card i) + 1) (suc i + 1)) ≡ good j → P) → P
by_status key card i k e go =
    let text = hexadecimal (text_at (ascii key) card (after_lines card i)) in
    by_line key status card i k e (λ v s _ _ e. go v (eqb-true _ _ (of_T _ (tested_value (λ v. eqb (allowed v) v) text s))) e)

digits_below_lem : (n : ℕ) (t : List ℕ) → digits_below n t ≡ list_all (λ d. ltb d n) (map digit t)
digits_below_lem n [] = refl
digits_below_lem n (b ∷ t) = ap (λ r. ltb (digit b) n && r) (digits_below_lem n t)

-- 1 to 16 numbers, each of a core, that a text says
pub record Digits (n : ℕ) (t s : List ℕ) : Type 0 where
  some : 1 ≤ length s
  pub few : length s ≤ max_digits
  named : T (list_all (λ d. ltb d n) s)
  pub said : map digit t ≡ s

schedule_tests : (n : ℕ) (t s : List ℕ) (a b c d : Bool) → leb 1 (length t) ≡ a → leb (length t) max_digits ≡ b → digits_below n t ≡ d
    → ◌≡◌ {A = Field (List ℕ)} (if (a && b) && c then if d then value (map digit t) else fault value_fault else fault form_fault) (value s) → Digits n t s
schedule_tests n t s true true true true p q r e =
    let m : map digit t ≡ s = cc in
    let l : length (map digit t) ≡ length t = length-map t digit in
    let h : Digits n t (map digit t) = record { some = rw l (leb-true _ _ p); few = rw l (leb-true _ _ q); named = rw (sym (digits_below_lem n t) ∙ r) tt; said = refl } in
    rw m at h
schedule_tests n t s true true true false p q r e = no_value e
schedule_tests n t s true true false d p q r e = no_value e
schedule_tests n t s true false c d p q r e = no_value e
schedule_tests n t s false b c d p q r e = no_value e

pub schedule_value : (n : ℕ) (t : List ℕ) {s : List ℕ} → schedule n t ≡ value s → Digits n t s
schedule_value n t {s} e = schedule_tests n t s (leb 1 (length t)) (leb (length t) max_digits) (digits_below 10 t) (digits_below n t) refl refl refl e

-- the w lines of a good card are as many as it says, and stand where they are looked for
by_word : {P : Type 0} (n m : ℕ) (s : Step ℕ) (k : List ℕ → Left → Verdict Job) {j : Job} → onward m s (λ w l. word_lines n l (λ ws. k (w ∷ ws))) ≡ good j
    → ((l : Left) (k : List ℕ → Left → Verdict Job) → word_lines n l k ≡ good j
    → ((ws : List ℕ) (r : Left) → length ws ≡ n → words_from n l.rest ≡ ws → k ws r ≡ good j → P) → P)
    → ((ws : List ℕ) (r : Left) → length ws ≡ suc n → more s (words_from n) ≡ ws → k ws r ≡ good j → P) → P
by_word n m (step w ls) k e ih go = ih (record { next = m + 1; rest = ls }) (λ ws. k (w ∷ ws)) e (λ ws r h f. go (w ∷ ws) r (ap suc h) (ap (λ ws. w ∷ ws) f))
by_word n m (stop f) k e ih go = never e

by_words : {P : Type 0} (n : ℕ) (l : Left) (k : List ℕ → Left → Verdict Job) {j : Job} → word_lines n l k ≡ good j
    → ((ws : List ℕ) (r : Left) → length ws ≡ n → words_from n l.rest ≡ ws → k ws r ≡ good j → P) → P
unfolding word_lines words_from
by_words zero l k e go = go [] l refl refl e
by_words (suc n) l k e go = by_word n l.next (first (ascii "w=") word l.rest) k e (λ l k. by_words n l k) go

pub none_good : {A : Type 0} (ls : List Line) (n : ℕ) {v : Verdict A} {j : A} → no_line_left ls n v ≡ good j → v ≡ good j
none_good [] n e = e
none_good (l ∷ ls) n e = never e

-- a card's job: its own lists keep to the limits, and they stand at its places
record Read (card : List ℕ) (j : Job) : Type 0 where
  sound : Sound j
  inside : (placed card j).schedule + (placed card j).digits ≤ length card
  stands : job_at card (placed card j) ≡ j

-- the digits from a key up to the line's end
text_digits : (key card : List ℕ) (at n : ℕ) {s : List ℕ} → at + length key ≤ line_end card at → line_end card at < length card → Digits n (text_at key card at) s
    → (length s ≡ line_end card at - (at + length key)) × (map digit (take (length s) (drop (at + length key) card)) ≡ s)
text_digits key card at n {s} h g d =
    let m : length s ≡ line_end card at - (at + length key) =
    ap length (sym d.said) ∙ length-map (text_at key card at) digit ∙ length-take-le (line_end card at - (at + length key)) (drop (at + length key) card) (simp length-drop (omega arith)) in
    (m, ap (λ i. map digit (take i (drop (at + length key) card))) m ∙ d.said)

content_read : (card : List ℕ) (j : Job) → content (left card 0 1) ≡ good j → Read card j
unfolding content after_lines
content_read card j e =
    by_number "cores=" decimal 1 max_cores 1 card 0 _ e (λ a ca e.
    by_number "memory=" decimal min_memory max_memory 4 card 1 _ e (λ b cb e.
    by_number "entry=" hexadecimal 0 max_word 4 card 2 _ e (λ c ce e.
    by_status "sr=" card 3 _ e (λ r cr e.
    by_number "steps=" decimal 0 max_steps 1 card 4 _ e (λ d cd e.
    by_line "schedule=" (schedule a) card 5 _ e (λ s es hs gs e.
    by_number "words=" decimal 0 (b / 4) 1 card 6 _ e (λ n cn e.
    by_words n _ _ e (λ ws l h f e.
    let made : good (job a b c r d s ws) ≡ good j = none_good l.rest l.next e in
    let is : job a b c r d s ws ≡ j = cc in
    let cs = schedule_value a (text_at (ascii "schedule=") card (after_lines card before_schedule)) es in
    let q = text_digits (ascii "schedule=") card (after_lines card before_schedule) a hs gs cs in
    let w : words_from (length ws) (lines (drop (after_lines card header_lines) card)) ≡ ws =
    ap (λ m. words_from m (lines (drop (after_lines card header_lines) card))) h ∙ f in
    let t : Read card (job a b c r d s ws) = record {
      sound = record {
        cores_low = ca.above;
        cores_high = ca.below;
        memory_low = cb.above;
        memory_high = cb.below;
        memory_multiple = cb.multiple;
        entry_multiple = ce.multiple;
        sr_allowed = cr;
        steps_high = cd.below;
        digits_low = cs.some;
        digits_high = cs.few;
        cores_named = cs.named;
        words_high = rw h cn.below;
      };
      inside = omega (arith, q.0, hs, gs);
      stands = ap₂ (job a b c r d) q.1 w;
    } in
    rw is at t))))))))

card_read : (card : List ℕ) (j : Job) (b : Bool) → leb (length card) max_card ≡ b → card_says card ≡ good j → Read card j
unfolding card_says
card_read card j true t e = content_read card j (rw t at e)
card_read card j false t e = never (rw t at e)

says_read : (card : List ℕ) (j : Job) → card_says card ≡ good j → Read card j
says_read card j e = card_read card j (leb (length card) max_card) refl e

pub says_sound : (card : List ℕ) (j : Job) → card_says card ≡ good j → Sound j
says_sound card j e = (says_read card j e).sound

-- ---- what the reader's answer says of the card

-- a good answer is what the card says, by its places
good_by : (card : List ℕ) (v : Verdict Job) (j : code.Job) → card_says card ≡ v → good j ≡ answered card v
    → (card_says card ≡ good (job_at card j)) × (j.schedule + j.digits ≤ length card)
good_by card (good i) j e h =
    let r = says_read card i e in
    let p : placed card i ≡ j = cc in
    (e ∙ ap good (sym r.stands ∙ ap (job_at card) p), subst (λ (i : code.Job). i.schedule + i.digits ≤ length card) p r.inside)
good_by card (refused f n) j e h = never (sym h)

bad_by : (card : List ℕ) (v : Verdict Job) {f n : ℕ} → refused f n ≡ answered card v → v ≡ refused f n
bad_by card (good i) h = never h
bad_by card (refused g m) {f} {n} h = let p : g ≡ f = cc in let q : m ≡ n = cc in ap₂ refused p q

pub bad_says : (card : List ℕ) {f n : ℕ} → refused f n ≡ answered card (card_says card) → card_says card ≡ refused f n
bad_says card h = bad_by card (card_says card) h

module _ (card : List ℕ) (j : code.Job) (h : good j ≡ answered card (card_says card)) where
  pub good_says : card_says card ≡ good (job_at card j)
  good_says = (good_by card (card_says card) j refl h).0

  pub good_bounds : Bounds card j
  good_bounds =
      let i : j.schedule + j.digits ≤ length card = (good_by card (card_says card) j refl h).1 in
      record {
        sound = says_sound card (job_at card j) good_says;
        digits_counted = length-map (take j.digits (drop j.schedule card)) digit ∙ length-take-le j.digits (drop j.schedule card) (simp length-drop (omega arith));
        digits_placed = i;
      }
