-- The reader's moves come to what the card says, with the places of a good card's job. Assumes nothing.
use Prim.Native.Nat.{ℕ, zero, suc, ◌+◌, ◌≤◌, ◌<◌}
use Prim.Native.String.{String}
use mathlib.Core.Path.{◌≡◌, refl, ap, sym, ◌∙◌}
use mathlib.Core.Bool.{Bool, true, false}
use mathlib.Core.List.{List, [], ◌∷◌}
use denote.Ref.{Bor}
use lib.Dec.{leb}
use lib.ListN.{length, drop}
use Rattle.text.specs.Ascii.{ascii}
use Rattle.text.specs.Lines.{Line, lines, Entry, entry, missing, entry_of}
use Rattle.text.specs.Inner.{line_end, after_lines}
use Rattle.text.proofs.Laws.{text_at, Stands, nowhere, there, entry_stands}
use Rattle.card.specs.Card.{Field, value, fault, cores, memory, entry_address, status, steps, schedule, word_count, word, Step, step, stop, followed, read, first, onward, line, word_lines, no_line_left, content, card_says, Left, Verdict, good, Job, form_fault, max_card}
use Rattle.card.specs.Answer.{told, and_then, header_lines, before_schedule, placed, answered, job}
use Rattle.card.specs.Inner.{counted, left, standing, start_of, rows_from, header_from, header_at, close, word_lines_of, put_image, last_lines}
use Rattle.card.specs.declared.Job as code
use Rattle.card.specs.declared.Progress.{Progress}
use Rattle.card.specs.declared.Reader.{Reader}
use Rattle.card.specs.declared.Refused.{Refused}
use Rattle.std.specs.Prelude.{Result}

-- what the line at a place says: a refusal, or what its text means, and the next line stands after its line feed
module _ {A : Type 0} (P : Step A → Type 0) (key : List ℕ) (f : List ℕ → Field A) (s : List ℕ) (at : ℕ) (stopped : (n : ℕ) → P (stop n))
    (stepped : (v : A) → f (text_at key s at) ≡ value v → at + length key ≤ line_end s at → line_end s at < length s → P (step v (lines (drop (line_end s at + 1) s)))) where
  meant : at + length key ≤ line_end s at → line_end s at < length s → (x : Field A) → f (text_at key s at) ≡ x → P (followed (lines (drop (line_end s at + 1) s)) x)
  meant h g (value v) e = stepped v e h g
  meant h g (fault n) e = stopped n

  stood : {e : Entry} → Stands key s at e → P (read f e)
  stood nowhere = stopped form_fault
  stood (there h g) = meant h g (f (text_at key s at)) refl

  pub by_place : P (first key f (lines (drop at s)))
  by_place = stood (entry_stands key s at)

module _ (card : List ℕ) where
  -- the reader's moves: over the header, and over all that follows it
  abbrev pub move : Verdict Progress → Verdict Progress
  move v = and_then v (header_at card)

  abbrev pub end : Verdict Progress → Verdict code.Job
  end v = and_then v (last_lines card)

  abbrev pub moves : Verdict code.Job
  moves = end (move (start_of card))

  -- the line after i others and its row, with what follows each
  both : (key : String) (f : List ℕ → Field ℕ) (i : ℕ) (k : ℕ → Left → Verdict Job) (go : ℕ → Verdict Progress)
      → ((v : ℕ) → answered card (k v (left card (line_end card (after_lines card i) + 1) (suc i + 1))) ≡ end (go v))
      → answered card (line key f (left card (after_lines card i) (suc i)) k) ≡ end (onward (suc i) (first (ascii key) f (lines (drop (after_lines card i) card))) (λ v left. go v))
  both key f i k go e =
      by_place (λ s. answered card (onward (suc i) s k) ≡ end (onward (suc i) s (λ v left. go v))) (ascii key) f card (after_lines card i) (λ m. refl) (λ v _ _ _. e v)

  -- of the schedule the row keeps how many digits it has
  counted_step : (key : List ℕ) (n i : ℕ) (ls : List Line) (go : ℕ → Verdict Progress)
      → onward i (first key (λ t. counted (schedule n t)) ls) (λ v left. go v) ≡ onward i (first key (schedule n) ls) (λ s left. go (length s))
  counted_step key n i ls go = of_entry (entry_of key ls)
    where
      of_field : (ls : List Line) (x : Field (List ℕ)) → onward i (followed ls (counted x)) (λ v left. go v) ≡ onward i (followed ls x) (λ s left. go (length s))
      of_field ls (value s) = refl
      of_field ls (fault f) = refl

      of_entry : (e : Entry) → onward i (read (λ t. counted (schedule n t)) e) (λ v left. go v) ≡ onward i (read (schedule n) e) (λ s left. go (length s))
      of_entry (entry t ls) = of_field ls (schedule n t)
      of_entry missing = refl

  both_counted : (key : String) (n i : ℕ) (k : List ℕ → Left → Verdict Job) (go : ℕ → Verdict Progress)
      → ((s : List ℕ) → answered card (k s (left card (line_end card (after_lines card i) + 1) (suc i + 1))) ≡ end (go (length s)))
      → answered card (line key (schedule n) (left card (after_lines card i) (suc i)) k)
      ≡ end (onward (suc i) (first (ascii key) (λ t. counted (schedule n t)) (lines (drop (after_lines card i) card))) (λ v left. go v))
  both_counted key n i k go e =
      by_place (λ s. answered card (onward (suc i) s k) ≡ end (onward (suc i) s (λ s left. go (length s)))) (ascii key) (schedule n) card (after_lines card i) (λ m. refl) (λ v _ _ _. e v)
      ∙ ap end (sym (counted_step (ascii key) n (suc i) (lines (drop (after_lines card i) card)) go))

  -- the w lines
  -- k and h go alike on n words
  abbrev Alike : ℕ → (List ℕ → Left → Verdict Job) → (List ℕ → Left → Verdict code.Job) → Type 0
  Alike n k h = (ws : List ℕ) (l : Left) → length ws ≡ n → answered card (k ws l) ≡ h ws l

  word_both : (n m : ℕ) (s : Step ℕ) (k : List ℕ → Left → Verdict Job) (h : List ℕ → Left → Verdict code.Job) → Alike (suc n) k h
      → ((l : Left) (k : List ℕ → Left → Verdict Job) (h : List ℕ → Left → Verdict code.Job) → Alike n k h → answered card (word_lines n l k) ≡ word_lines n l h)
      → answered card (onward m s (λ w l. word_lines n l (λ ws. k (w ∷ ws)))) ≡ onward m s (λ w l. word_lines n l (λ ws. h (w ∷ ws)))
  word_both n m (step w ls) k h e ih = ih (record { next = m + 1; rest = ls }) (λ ws. k (w ∷ ws)) (λ ws. h (w ∷ ws)) (λ ws l g. e (w ∷ ws) l (ap suc g))
  word_both n m (stop f) k h e ih = refl

  words_both : (n : ℕ) (l : Left) (k : List ℕ → Left → Verdict Job) (h : List ℕ → Left → Verdict code.Job) → Alike n k h
      → answered card (word_lines n l k) ≡ word_lines n l h
  unfolding word_lines
  words_both zero l k h e = e [] l refl
  words_both (suc n) l k h e = word_both n l.next (first (ascii "w=") word l.rest) k h e (words_both n)

  close_both : (ls : List Line) (n : ℕ) (j : Job) → answered card (no_line_left ls n (good j)) ≡ no_line_left ls n (good (placed card j))
  close_both [] n j = refl
  close_both (l ∷ ls) n j = refl

  module _ (fits : leb (length card) max_card ≡ true) where
    -- after the header: the values of its lines, and n w lines to come
    abbrev so_far : ℕ → ℕ → ℕ → ℕ → ℕ → List ℕ → ℕ → code.Job
    so_far a b c r d s n = record {
      cores = a;
      memory = b;
      entry = c;
      sr = r;
      steps = d;
      schedule = after_lines card before_schedule + length (ascii "schedule=");
      digits = length s;
      words = n;
      image = 0;
    }

    last_both : (a b c r d : ℕ) (s : List ℕ) (n : ℕ)
        → answered card (word_lines n (left card (after_lines card header_lines) (header_lines + 1)) (λ ws l. no_line_left l.rest l.next (good (job a b c r d s ws))))
        ≡ last_lines card (record { at = after_lines card header_lines; line = header_lines + 1; job = so_far a b c r d s n })
    unfolding last_lines word_lines_of
    last_both a b c r d s n =
        rw fits
        (words_both n (left card (after_lines card header_lines) (header_lines + 1)) _ (λ ws. close (put_image (after_lines card header_lines) (so_far a b c r d s n)))
        (λ ws l e. close_both l.rest l.next (job a b c r d s ws) ∙ ap (λ m. close (put_image (after_lines card header_lines) (so_far a b c r d s m)) l) e))

    header_both : answered card (content (left card 0 1)) ≡ end (header_from card 0)
    unfolding content rows_from after_lines
    header_both =
        both "cores=" cores 0 _ _ (λ a.
        both "memory=" memory 1 _ _ (λ b.
        both "entry=" entry_address 2 _ _ (λ c.
        both "sr=" status 3 _ _ (λ r.
        both "steps=" steps 4 _ _ (λ d.
        both_counted "schedule=" a 5 _ _ (λ s.
        both "words=" (word_count b) 6 _ _ (last_both a b c r d s)))))))

  card_both : (b : Bool) → leb (length card) max_card ≡ b → moves ≡ answered card (card_says card)
  unfolding card_says header_at
  card_both true e = rw e (sym (header_both e))
  card_both false e = rw e

  pub whole : moves ≡ answered card (card_says card)
  whole = card_both _ refl

-- ---- the reader's moves, one by one

-- what `new`, `header` and `finish` say
abbrev pub Starts : Bor (List ℕ) → Reader → Type 0
Starts s r = (r.card ≡ s) × (standing r.reached ≡ start_of s.now)

abbrev pub Moves : Reader → Reader → Type 0
Moves r t = (t.card ≡ r.card) × (standing t.reached ≡ move r.card.now (standing r.reached))

abbrev pub Ends : Reader → Result code.Job Refused → Type 0
Ends r t = told t ≡ end r.card.now (standing r.reached)

-- a reader of the card s that has reached v
pub record At (s : Bor (List ℕ)) (v : Verdict Progress) (r : Reader) : Type 0 where
  reads : r.card ≡ s
  stands : standing r.reached ≡ v

module _ (s : Bor (List ℕ)) where
  pub started : (r : Reader) → Starts s r → At s (start_of s.now) r
  started r e = record { reads = e.0; stands = e.1 }

  module _ {v : Verdict Progress} (r : Reader) (a : At s v r) where
    pub moved : (t : Reader) → Moves r t → At s (move s.now v) t
    moved t e = record { reads = e.0 ∙ a.reads; stands = e.1 ∙ rw (a.reads, a.stands) }

    pub ended : (t : Result code.Job Refused) → Ends r t → told t ≡ end s.now v
    ended t e = e ∙ rw (a.reads, a.stands)
