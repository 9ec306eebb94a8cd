-- What the writers leave is the runner's output. Assumes nothing.
use mathlib.Core.Path.{◌≡◌, ap, ap₂, sym, subst, ◌∙◌}
use mathlib.Core.Bool.{false}
use mathlib.Core.List.{List, ◌++◌}
use Prim.Native.Nat.{ℕ, ◌+◌, ◌-◌, ◌≤◌, ◌<◌}
use native.Mathlib.Omega.{arith}
use borrow.Author.Tests.{eq-eqb, le-ltb}
use lib.Dec.{T, ltb}
use lib.ListN.{length, take, drop, length-append, length-drop}
use Rattle.refusal.specs.Lent.{Lent, Left}
use Rattle.refusal.specs.Refusal.{fast_refusal}
use Rattle.refusal.specs.declared.cause.Refusal.{Refusal}
use Rattle.refusal.proofs.Passes.{cause_number}
use Rattle.steps.specs.Plain.{Plain, plain_of}
use Rattle.linked.specs.Run.{plain_run, history}
use Rattle.steps.specs.declared.counts.Counts.{Counts}
use Rattle.engine.specs.Answer.{Answer, number, counts_of, FastAnswer}
use Rattle.std.specs.Prelude.{Ok, Err}
use Rattle.text.proofs.Stores.{take_sets}
use Rattle.card.specs.Card.{Verdict, good, card_says}
use Rattle.card.specs.Answer.{refusal, told, answered, job_at, Bounds}
use Rattle.card.specs.declared.Cause.{Cause}
use Rattle.card.specs.declared.Job as code
use Rattle.card.specs.declared.Refused as why
use Rattle.card.proofs.Bounds.{good_says as card-says, bad_says}
use Rattle.job.specs.Job.{image_length, memory_of, image_after}
use Rattle.job.specs.Answer.{ReadJob}
use Rattle.job.proofs.Laws.{right_image, image_laid, length_memory}
use Rattle.report.specs.Answer.{answer, written}
use Rattle.report.specs.Result.{result_text, refusal_text}
use Rattle.std.specs.Prelude.{Result, Ok, Err, IfOk}
use Rattle.report.specs.declared.TooSmall.{TooSmall}
use Rattle.report.proofs.Room.{too_small}
use Rattle.vector_list.specs.Rules.{vectors_fit}
use Rattle.vectors_file.specs.File.{File, vectors_say}
use Rattle.vectors_file.specs.Answer.{told as told_vectors}
use Rattle.vectors_file.proofs.Laws.{good_fits}
use Rattle.play.specs.Output.{run_text, job_text, verdict_text, card_text, output_of, output}
use Rattle.play.specs.Answer.{output_room, Printed}
use Rattle.play.specs.Inner.{Ready}

-- ---- the answer

pub no_room : (text out : List ℕ) → length out < output_room → Printed text out out (Err (record {}))
no_room text out h = let e = too_small output_room text out h in record { says = e.0; left = e.1; among = tt }

module _ (room : ℕ) (text out out' : List ℕ) (r : Result ℕ TooSmall) (h : output_room ≤ length out) (g : room ≤ output_room) where
  -- a text that was written is among the bytes, since it did not make them more
  pub printed : r ≡ answer room text out → out' ≡ written room text out → length out' ≡ length out → Printed text out out' r
  unfolding answer written
  printed e w l =
      let a : ltb (length out) room ≡ false = le-ltb (length out) room (omega arith) in
      let b : ltb (length out) output_room ≡ false = le-ltb (length out) output_room h in
      let e' : r ≡ Ok (length text) = rw a at e in
      let w' : out' ≡ text ++ drop (length text) out = rw a at w in
      let n : length out ≡ length text + (length out - length text) =
      sym l ∙ ap length w' ∙ length-append text (drop (length text) out) ∙ ap (λ (k : ℕ). length text + k) (length-drop (length text) out) in
      record { says = rw b e'; left = rw b w'; among = subst (λ (q : Result ℕ TooSmall). IfOk q (λ k. k ≤ length out)) (sym e') (let k : length text ≤ length out = omega arith in k) }

-- there is room for the output, so it is not refused
pub never_too_small : {text out out' : List ℕ} {r : Result ℕ TooSmall} (e : TooSmall) → Printed text out out' r → output_room ≤ length out → r ≡ Err e → ⊥
unfolding answer
never_too_small {text} {out} {out'} {r} e p h f =
    let a : ltb (length out) output_room ≡ false = le-ltb (length out) output_room h in
    let g : r ≡ Ok (length text) = rw a at p.says in
    cc

-- ---- a run that is not refused

module _ {l : Lent} {cache cache' : List ℕ} {x : Left} {r : Answer} (f : FastAnswer l cache x cache' r) (z : fast_refusal l cache ≡ 0) where
  pub never_refused : {A : Type 0} (cause : Refusal) → r ≡ Err cause → A
  never_refused cause e = absurd (cause_number cause (ap number (sym e) ∙ f.refusal ∙ z))

  -- its counts and states are the plain run's
  pub run_text_lem : (n : Counts) → r ≡ Ok n → result_text n x.states ≡ run_text l cache
  unfolding run_text
  run_text_lem n e =
      let p : plain_of x n ≡ plain_run l = ap (λ (a : Answer). plain_of x (counts_of a)) (sym e) ∙ rw (eq-eqb _ _ z) at f.left in
      let u : n.reused ≡ (history l cache).reused =
      ap (λ (a : Answer). (counts_of a).reused) (sym e) ∙ rw (eq-eqb _ _ z) at f.reused_count in
      ap₂ (λ (x : Plain) (k : ℕ). result_text (record { executed = x.executed; raised = x.raised; reused = k }) x.states) p u

-- ---- a card that was read

module _ {card image image' : List ℕ} {r : Result code.Job why.Refused} (l : length image ≡ image_length) (h : ReadJob card image image' r) where
  says : told r ≡ answered card (card_says card)
  says = h.says ∙ ap (answered card) (right_image card image l)

  pub bad_output : (x : why.Refused) → r ≡ Err x → (vectors : List ℕ) → refusal_text (refusal x.cause) x.line ≡ card_text card vectors
  unfolding card_text
  bad_output x e vectors = ap (verdict_text (job_text vectors)) (sym (bad_says card (ap told (sym e) ∙ says)))

  module _ (j : code.Job) (e : r ≡ Ok j) where
    good_says : card_says card ≡ good (job_at card j)
    good_says = card-says card j (ap told (sym e) ∙ says)

    pub good_output : (vectors : List ℕ) → job_text vectors (job_at card j) ≡ card_text card vectors
    unfolding card_text
    good_output vectors = ap (verdict_text (job_text vectors)) (sym good_says)

    pub ready : length image' ≡ image_length → Ready card j image'
    ready m =
        let b : Bounds card j = rw e at h.held in
        let n : length (memory_of (job_at card j)) ≡ j.memory = length_memory (job_at card j) in
        let a : image' ≡ image_after (card_says card) image = h.written ∙ ap (λ v. image_after v image) (right_image card image l) in
        let high = b.sound.memory_high in
        record {
          says = good_says;
          bounds = b;
          fits = omega arith;
          laid_out = ap (take j.memory) (a ∙ image_laid image good_says) ∙ take_sets image (memory_of (job_at card j)) (omega arith) j.memory n;
        }

pub printed_as : {text text' out out' : List ℕ} {r : Result ℕ TooSmall} → text ≡ text' → Printed text out out' r → Printed text' out out' r
printed_as {out = out} {out' = out'} {r = r} e p = subst (λ (t : List ℕ). Printed t out out' r) e p

-- ---- a file of vectors that was read

module _ (file : File) (r : Result (List ℕ) why.Refused) (h : told_vectors r ≡ vectors_say file) where
  pub bad_list_output : (x : why.Refused) → r ≡ Err x → (card : List ℕ) → refusal_text (refusal x.cause) x.line ≡ output file card
  unfolding output
  bad_list_output x e card = ap (λ v. output_of v (card_says card)) (ap told_vectors (sym e) ∙ h)

  module _ (list : List ℕ) (e : r ≡ Ok list) where
    list_says : vectors_say file ≡ good list
    list_says = sym (ap told_vectors (sym e) ∙ h)

    pub list_fits : T (vectors_fit list)
    list_fits = good_fits file list list_says

    pub list_output : (card : List ℕ) → card_text card list ≡ output file card
    unfolding output card_text
    list_output card = ap (λ v. output_of v (card_says card)) (sym list_says)
