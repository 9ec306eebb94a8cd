-- What note 7 of document 02 promises of earlier cards, by the definitions alone. Assumes nothing.
use Prim.Native.Nat.{ℕ, zero, suc, ◌+◌, ◌-◌, ◌*◌, ◌/◌, ◌≤◌}
use Prim.Native.String.{String}
use mathlib.Core.Path.{◌≡◌, refl, ap, sym, ◌∙◌}
use mathlib.Core.Bool.{Bool, true, false, ◌&&◌, not, and-false}
use mathlib.Core.List.{List, [], ◌∷◌, ◌++◌}
use native.Mathlib.Numerals.{add-one}
use native.Mathlib.Omega.{arith}
use borrow.Author.Tests.{leb-true, eqb-true, le-leb, lt-leb}
use lib.Dec.{eqb, leb, lit≤}
use lib.ListN.{length, drop, length-drop, length-append, length-map}
use Rattle.std.specs.Prelude.{if◌then◌else◌}
use Rattle.bits.proofs.Tests.{and_left, and_right, of_T, T_of}
use Rattle.arith.specs.Status.{allowed, only}
use Rattle.text.specs.Ascii.{ascii}
use Rattle.text.specs.Digits.{digit}
use Rattle.text.specs.Numbers.{within, number, needless_zero, decimal, hexadecimal}
use Rattle.text.specs.Lines.{Line, ended, cut, onto, lines, begins, Entry, entry, missing, entry_of}
use Rattle.std.specs.Prelude.{Option, None}
use Rattle.text.proofs.Laws.{begins_length}
use Rattle.card.specs.Card.{Field, value, fault, tested, limited, cores, memory, entry_address, status, steps, schedule, word_count, word, Step, step, stop, followed, read, first, onward, line, word_lines, no_line_left, content, card_says, Left, Verdict, good, refused, Job, form_fault, max_card, min_memory, max_memory, max_digits}
use Rattle.card.specs.Earlier.{earlier_content, earlier_says, put_in, with_sr, renumbered}
use Rattle.card.proofs.Bounds.{never, no_value, limited_value, schedule_value}

-- ---- the lines of a card with a line put in

abbrev rest : ℕ → List Line → Left
rest n ls = record { next = n; rest = ls }

-- a line put in after the first n ended ones
abbrev put_line : ℕ → Line → List Line → List Line
put_line zero x ls = x ∷ ls
put_line (suc n) x [] = []
put_line (suc n) x (ended l ∷ ls) = ended l ∷ put_line n x ls
put_line (suc n) x (cut l ∷ ls) = cut l ∷ ls

onto_put : (n b : ℕ) (x : Line) (ls : List Line) → onto b (put_line (suc n) x ls) ≡ put_line (suc n) x (onto b ls)
onto_put n b x [] = refl
onto_put n b x (ended l ∷ ls) = refl
onto_put n b x (cut l ∷ ls) = refl

module _ (text : List ℕ) (x : Line) (is : (s : List ℕ) → lines (text ++ s) ≡ x ∷ lines s) where
  lines_put : (n : ℕ) (s : List ℕ) → lines (put_in n text s) ≡ put_line n x (lines s)
  unfolding put_in lines
  lines_put zero s = is s
  lines_put (suc n) [] = refl
  lines_put (suc n) (b ∷ s) = byte (eqb b 10) (lines_put n s) (lines_put (suc n) s)
    where
      byte : (t : Bool) → lines (put_in n text s) ≡ put_line n x (lines s) → lines (put_in (suc n) text s) ≡ put_line (suc n) x (lines s)
          → (if t then ended [] ∷ lines (if t then put_in n text s else put_in (suc n) text s) else onto b (lines (if t then put_in n text s else put_in (suc n) text s)))
          ≡ put_line (suc n) x (if t then ended [] ∷ lines s else onto b (lines s))
      byte true e f = ap (λ ls. ended [] ∷ ls) e
      byte false e f = ap (onto b) f ∙ onto_put n b x (lines s)

abbrev line_sr : Line
line_sr = ended (ascii "sr=00008001")

lines_sr : (s : List ℕ) → lines (ascii "sr=00008001\n" ++ s) ≡ line_sr ∷ lines s
unfolding lines
lines_sr s = refl

-- ---- what such a card says

-- a line above the one put in
module _ {A B : Type 0} (key : String) (f : List ℕ → Field A) (n m : ℕ) (x : Line) (k h : A → Left → Verdict B) (above : n ≤ 3)
    (e : (v : A) (ls : List Line) → k v (rest (n + 1) (put_line m x ls)) ≡ renumbered (h v (rest (n + 1) ls))) where
  same_number : (g : ℕ) → ◌≡◌ {A = Verdict B} (refused g n) (renumbered (refused g n))
  same_number g = rw (le-leb n 3 above)

  field_above : (ls : List Line) (v : Field A) → onward n (followed (put_line m x ls) v) k ≡ renumbered (onward n (followed ls v) h)
  field_above ls (value v) = e v ls
  field_above ls (fault g) = same_number g

  key_above : (l : List ℕ) (ls : List Line) (t : Bool)
      → onward n (read f (if t then entry l (put_line m x ls) else missing)) k ≡ renumbered (onward n (read f (if t then entry l ls else missing)) h)
  key_above l ls true = field_above ls (f l)
  key_above l ls false = same_number form_fault

  line_above : (ls : List Line) → line key f (rest n (put_line (suc m) x ls)) k ≡ renumbered (line key f (rest n ls) h)
  unfolding entry_of
  line_above [] = same_number form_fault
  line_above (ended l ∷ ls) = key_above (drop (length (ascii key)) l) ls (begins (ascii key) l)
  line_above (cut l ∷ ls) = same_number form_fault

-- the lines below it
next_number : {B : Type 0} (n g : ℕ) → 4 ≤ n → ◌≡◌ {A = Verdict B} (refused g (n + 1)) (renumbered (refused g n))
next_number n g below = rw (lt-leb n 3 below) (ap (refused g) (add-one n))

module _ {A B : Type 0} (n : ℕ) (below : 4 ≤ n) (k h : A → Left → Verdict B)
    (e : (v : A) (ls : List Line) → k v (rest (n + 1 + 1) ls) ≡ renumbered (h v (rest (n + 1) ls))) where
  step_below : (s : Step A) → onward (n + 1) s k ≡ renumbered (onward n s h)
  step_below (step v ls) = e v ls
  step_below (stop g) = next_number n g below

  line_below : (key : String) (f : List ℕ → Field A) (ls : List Line) → line key f (rest (n + 1) ls) k ≡ renumbered (line key f (rest n ls) h)
  line_below key f ls = step_below (first (ascii key) f ls)

words_below : {B : Type 0} (c n : ℕ) → 4 ≤ n → (k h : List ℕ → Left → Verdict B)
    → ((m : ℕ) → 4 ≤ m → (ws : List ℕ) (ls : List Line) → k ws (rest (m + 1) ls) ≡ renumbered (h ws (rest m ls)))
    → (ls : List Line) → word_lines c (rest (n + 1) ls) k ≡ renumbered (word_lines c (rest n ls) h)
unfolding word_lines
words_below zero n below k h e ls = e n below [] ls
words_below (suc c) n below k h e ls =
    line_below n below _ _ (λ w ls. words_below c (n + 1) (omega arith) (λ ws. k (w ∷ ws)) (λ ws. h (w ∷ ws)) (λ m b ws. e m b (w ∷ ws)) ls) "w=" word ls

none_below : {B : Type 0} (n : ℕ) → 4 ≤ n → (j : B) (ls : List Line) → no_line_left ls (n + 1) (good j) ≡ renumbered (no_line_left ls n (good j))
none_below n below j [] = refl
none_below n below j (l ∷ ls) = next_number n form_fault below

content_with : (ls : List Line) → content (rest 1 (put_line 3 line_sr ls)) ≡ renumbered (earlier_content (rest 1 ls))
unfolding content earlier_content entry_of digit allowed only
content_with =
    line_above "cores=" cores 1 2 line_sr _ _ (lit≤ tt) (λ a.
    line_above "memory=" memory 2 1 line_sr _ _ (lit≤ tt) (λ b.
    line_above "entry=" entry_address 3 0 line_sr _ _ (lit≤ tt) (λ c.
    line_below 4 (lit≤ tt) _ _ (λ d.
    line_below 5 (lit≤ tt) _ _ (λ s.
    line_below 6 (lit≤ tt) _ _ (λ n.
    words_below n 7 (lit≤ tt) _ _ (λ m b ws ls. none_below m b _ ls))
    "words=" (word_count b))
    "schedule=" (schedule a))
    "steps=" steps)))

-- ---- how long a good card is

size : List Line → ℕ
size [] = 0
size (ended l ∷ ls) = suc (length l + size ls)
size (cut l ∷ ls) = length l + size ls

size_onto : (b : ℕ) (ls : List Line) → size (onto b ls) ≡ suc (size ls)
unfolding size
size_onto b [] = refl
size_onto b (ended l ∷ ls) = omega arith
size_onto b (cut l ∷ ls) = omega arith

size_lines : (s : List ℕ) → size (lines s) ≡ length s
unfolding size lines
size_lines [] = refl
size_lines (b ∷ s) = byte (eqb b 10) (size_lines s)
  where
    byte : (t : Bool) → size (lines s) ≡ length s → size (if t then ended [] ∷ lines s else onto b (lines s)) ≡ suc (length s)
    byte true e = omega arith
    byte false e = size_onto b (lines s) ∙ ap suc e

-- a text that means a value has at most n characters
abbrev Short : {A : Type 0} → ℕ → (List ℕ → Field A) → Type 0
Short {A} n f = (t : List ℕ) (v : A) → f t ≡ value v → length t ≤ n

no_step : {A P : Type 0} {f : ℕ} {v : A} {rs : List Line} → stop f ≡ step v rs → P
no_step e = absurd (let z : ◌≡◌ {A = ℕ} 0 1 = cc in omega arith)

-- the line read is so long at most
module _ {A : Type 0} (key : List ℕ) (f : List ℕ → Field A) (n : ℕ) (short : Short n f) where
  field_size : (l : List ℕ) (ls : List Line) {v : A} {rs : List Line} → length key ≤ length l → (x : Field A) → f (drop (length key) l) ≡ x → followed ls x ≡ step v rs
      → size (ended l ∷ ls) ≤ length key + n + 1 + size rs
  unfolding size
  field_size l ls {rs = rs} h (value w) g e =
      let s : ls ≡ rs = cc in
      let d = short (drop (length key) l) w g in
      let k : length (drop (length key) l) ≡ length l - length key = length-drop (length key) l in
      rw (← s) (omega arith)
  field_size l ls h (fault g) _ e = no_step e

  key_size : (l : List ℕ) (ls : List Line) {v : A} {rs : List Line} (t : Bool) → begins key l ≡ t → read f (if t then entry (drop (length key) l) ls else missing) ≡ step v rs
      → size (ended l ∷ ls) ≤ length key + n + 1 + size rs
  key_size l ls true b e = field_size l ls (begins_length key l b) (f (drop (length key) l)) refl e
  key_size l ls false b e = no_step e

  first_size : (ls : List Line) {v : A} {rs : List Line} → first key f ls ≡ step v rs → size ls ≤ length key + n + 1 + size rs
  unfolding entry_of
  first_size [] e = no_step e
  first_size (ended l ∷ ls) e = key_size l ls (begins key l) refl e
  first_size (cut l ∷ ls) e = no_step e

-- the next line of a good card
step_good : {A B P : Type 0} (n : ℕ) (k : A → Left → Verdict B) {j : B} (s : Step A) → onward n s k ≡ good j
    → ((v : A) (rs : List Line) → s ≡ step v rs → k v (rest (n + 1) rs) ≡ good j → P) → P
step_good n k (step v rs) e go = go v rs refl e
step_good n k (stop f) e go = never e

line_good : {A B P : Type 0} (key : String) (f : List ℕ → Field A) (n : ℕ) (ls : List Line) (k : A → Left → Verdict B) {j : B} → line key f (rest n ls) k ≡ good j
    → ((v : A) (rs : List Line) → first (ascii key) f ls ≡ step v rs → k v (rest (n + 1) rs) ≡ good j → P) → P
line_good key f n ls k e go = step_good n k (first (ascii key) f ls) e go

-- ---- each form's length

tested_short : (f : ℕ → Bool) (n : ℕ) (t : List ℕ) (p : Option ℕ) (b : Bool) {v : ℕ} → (b ≡ true → length t ≤ n) → tested f (if b then p else None) ≡ value v → length t ≤ n
tested_short f n t p true h e = h refl
tested_short f n t p false h e = no_value e

decimal_short : (f : ℕ → Bool) → Short 7 (λ t. tested f (decimal t))
decimal_short f t v e =
    tested_short f 7 t (number 10 0 t) (within 1 7 (length t) && not (needless_zero t))
    (λ b. leb-true _ _ (of_T _ (and_right (leb 1 (length t)) (leb (length t) 7) (and_left (within 1 7 (length t)) (not (needless_zero t)) (T_of _ b))))) e

hexadecimal_short : (f : ℕ → Bool) → Short 8 (λ t. tested f (hexadecimal t))
hexadecimal_short f t v e = tested_short f 8 t (number 16 0 t) (eqb (length t) 8) (λ b. let h = eqb-true (length t) 8 b in omega arith) e

schedule_short : (n : ℕ) → Short max_digits (schedule n)
schedule_short n t v e =
    let d = schedule_value n t e in
    let few = d.few in
    let m : length v ≡ length t = ap length (sym d.said) ∙ length-map t digit in
    omega arith

-- a line's number is not above its limit
first_limit : (low high m : ℕ) (key : List ℕ) (parse : List ℕ → Option ℕ) (ls : List Line) {v : ℕ} {rs : List Line} → first key (λ t. limited low high m (parse t)) ls ≡ step v rs → v ≤ high
first_limit low high m key parse ls e = of_entry (entry_of key ls) e
  where
    of_field : (ls : List Line) {v : ℕ} {rs : List Line} (p : Option ℕ) (x : Field ℕ) → limited low high m p ≡ x → followed ls x ≡ step v rs → v ≤ high
    of_field ls {v} p (value w) q e = let i : w ≡ v = cc in let h = (limited_value low high m p q).below in omega arith
    of_field ls p (fault f) q e = no_step e

    of_entry : {v : ℕ} {rs : List Line} (x : Entry) → read (λ t. limited low high m (parse t)) x ≡ step v rs → v ≤ high
    of_entry (entry t ls) e = of_field ls (parse t) (limited low high m (parse t)) refl e
    of_entry missing e = no_step e

words_size : {B P : Type 0} (c n : ℕ) (ls : List Line) (k : List ℕ → Left → Verdict B) {j : B} → word_lines c (rest n ls) k ≡ good j
    → ((ws : List ℕ) (m : ℕ) (rs : List Line) → size ls ≤ 11 * c + size rs → k ws (rest m rs) ≡ good j → P) → P
unfolding word_lines
words_size zero n ls k e go = go [] n ls (omega arith) e
words_size (suc c) n ls k e go =
    line_good "w=" word n ls _ e (λ w rs s e.
    let h = first_size (ascii "w=") word 8 (hexadecimal_short _) ls s in
    words_size c (n + 1) rs (λ ws. k (w ∷ ws)) e (λ ws m ts g e. go (w ∷ ws) m ts (omega arith) e))

none_size : {B : Type 0} (ls : List Line) (n : ℕ) (v : Verdict B) {j : B} → no_line_left ls n v ≡ good j → size ls ≡ 0
unfolding size
none_size [] n v e = refl
none_size (l ∷ ls) n v e = never e

-- 11 bytes for each of 4,096 words, and 98 for the lines above them
abbrev longest : ℕ
longest = 45154

content_short : (ls : List Line) {j : Job} → earlier_content (rest 1 ls) ≡ good j → size ls ≤ longest
unfolding earlier_content
content_short ls e =
    line_good "cores=" cores 1 ls _ e (λ a ls₁ s₁ e.
    line_good "memory=" memory 2 ls₁ _ e (λ b ls₂ s₂ e.
    line_good "entry=" entry_address 3 ls₂ _ e (λ c ls₃ s₃ e.
    line_good "steps=" steps 4 ls₃ _ e (λ d ls₄ s₄ e.
    line_good "schedule=" (schedule a) 5 ls₄ _ e (λ s ls₅ s₅ e.
    line_good "words=" (word_count b) 6 ls₅ _ e (λ n ls₆ s₆ e.
    words_size n 7 ls₆ _ e (λ ws m rs h e.
    let z = none_size rs m _ e in
    let h₁ = first_size (ascii "cores=") cores 7 (decimal_short _) ls s₁ in
    let h₂ = first_size (ascii "memory=") memory 7 (decimal_short _) ls₁ s₂ in
    let h₃ = first_size (ascii "entry=") entry_address 8 (hexadecimal_short _) ls₂ s₃ in
    let h₄ = first_size (ascii "steps=") steps 7 (decimal_short _) ls₃ s₄ in
    let h₅ = first_size (ascii "schedule=") (schedule a) max_digits (schedule_short a) ls₄ s₅ in
    let h₆ = first_size (ascii "words=") (word_count b) 7 (decimal_short _) ls₅ s₆ in
    let k = first_limit 0 (b / 4) 1 (ascii "words=") decimal ls₅ s₆ in
    let g = first_limit min_memory max_memory 4 (ascii "memory=") decimal ls₁ s₂ in
    omega arith)))))))

-- ---- the promises

-- a text put in makes another longer by its length at most
put_length : (n : ℕ) (text s : List ℕ) → length (put_in n text s) ≤ length text + length s
unfolding put_in
put_length zero text s = simp length-append (omega arith)
put_length (suc n) text [] = omega arith
put_length (suc n) text (b ∷ s) = byte (eqb b 10) (put_length n text s) (put_length (suc n) text s)
  where
    byte : (t : Bool) → length (put_in n text s) ≤ length text + length s → length (put_in (suc n) text s) ≤ length text + length s
        → suc (length (if t then put_in n text s else put_in (suc n) text s)) ≤ length text + suc (length s)
    byte true e f = omega arith
    byte false e f = omega arith

-- a card with the line says what it said without: the same job, or the same refusal, at its line's new number
pub says_with : (card : List ℕ) → length (ascii "sr=00008001\n") + length card ≤ max_card → card_says (with_sr card) ≡ renumbered (earlier_says card)
unfolding card_says earlier_says
says_with card h =
    let n : length (with_sr card) ≤ length (ascii "sr=00008001\n") + length card = put_length _ _ card in
    rw (le-leb (length (with_sr card)) max_card (omega arith), le-leb (length card) max_card (omega arith))
    (ap (λ ls. content (rest 1 ls)) (lines_put (ascii "sr=00008001\n") line_sr lines_sr _ card) ∙ content_with (lines card))

-- what a good card's lines say
earlier_lines : (card : List ℕ) (b : Bool) {j : Job} → leb (length card) max_card ≡ b → earlier_says card ≡ good j → earlier_content (rest 1 (lines card)) ≡ good j
unfolding earlier_says
earlier_lines card true t e = rw t at e
earlier_lines card false t e = never (rw t at e)

-- a good one has room for the line
pub earlier_short : (card : List ℕ) {j : Job} → earlier_says card ≡ good j → length card ≤ longest
earlier_short card e = rw (← size_lines card) (content_short (lines card) (earlier_lines card (leb (length card) max_card) refl e))

pub earlier_good : (card : List ℕ) {j : Job} → earlier_says card ≡ good j → card_says (with_sr card) ≡ good j
earlier_good card e = let h = earlier_short card e in says_with card (omega arith) ∙ ap renumbered e

-- a steps line is no sr line
no_sr : (l : List ℕ) → begins (ascii "steps=") l ≡ true → begins (ascii "sr=") l ≡ false
no_sr [] e = refl
no_sr (b ∷ []) e = second (eqb 115 b) e
  where
    second : (t : Bool) → (t && false) ≡ true → (t && false) ≡ false
    second true e = absurd (let z : ◌≡◌ {A = ℕ} 0 1 = cc in omega arith)
    second false e = refl
no_sr (b ∷ c ∷ l) e =
    let t = T_of _ e in
    let u = and_left (eqb 116 c) _ (and_right (eqb 115 b) _ t) in
    let i : 116 ≡ c = eqb-true 116 c (of_T _ u) in
    rw (← i) (and-false (eqb 115 b))

steps_first : (ls : List Line) {d : ℕ} {rs : List Line} → first (ascii "steps=") steps ls ≡ step d rs → first (ascii "sr=") status ls ≡ stop form_fault
unfolding entry_of
steps_first [] e = refl
steps_first (ended l ∷ ls) e = by_key (begins (ascii "steps=") l) refl e
  where
    by_key : {d : ℕ} {rs : List Line} (t : Bool) → begins (ascii "steps=") l ≡ t → read steps (if t then entry (drop 6 l) ls else missing) ≡ step d rs
        → first (ascii "sr=") status (ended l ∷ ls) ≡ stop form_fault
    by_key true b e = rw (no_sr l b)
    by_key false b e = no_step e
steps_first (cut l ∷ ls) e = refl

content_lacks : (ls : List Line) {j : Job} → earlier_content (rest 1 ls) ≡ good j → content (rest 1 ls) ≡ refused form_fault 4
unfolding content earlier_content
content_lacks ls e =
    line_good "cores=" cores 1 ls _ e (λ a ls₁ s₁ e.
    line_good "memory=" memory 2 ls₁ _ e (λ b ls₂ s₂ e.
    line_good "entry=" entry_address 3 ls₂ _ e (λ c ls₃ s₃ e.
    line_good "steps=" steps 4 ls₃ _ e (λ d ls₄ s₄ e.
    rw (s₁, s₂, s₃, steps_first ls₃ s₄)))))

-- "Cards taken until now lack the line and so meet 9 at line 4"
pub earlier_refused : (card : List ℕ) {j : Job} → earlier_says card ≡ good j → card_says card ≡ refused form_fault 4
unfolding card_says
earlier_refused card e =
    let h = earlier_short card e in
    rw (le-leb (length card) max_card (omega arith)) (content_lacks (lines card) (earlier_lines card (leb (length card) max_card) refl e))
