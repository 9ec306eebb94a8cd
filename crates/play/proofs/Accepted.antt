-- The run of a good card's job is not refused. Assumes nothing.
use mathlib.Core.Path.{◌≡◌, refl, ap, sym, subst, ◌∙◌}
use mathlib.Core.List.{List, [], ◌∷◌}
use Prim.Native.Nat.{ℕ, zero, suc, ◌+◌, ◌*◌, ◌/◌, ◌%◌, ◌≤◌, ◌<◌}
use native.Mathlib.Omega.{arith}
use borrow.Author.Tests.{eq-eqb, le-leb}
use lib.Dec.{T, eqb, leb, ltb, lit<}
use lib.ListN.{length, get_or, replicate, length-replicate}
use Rattle.bits.proofs.Every.{of_below}
use Rattle.vector_list.specs.Rules.{vectors_fit}
use Rattle.bits.proofs.Tests.{and_left, and_right, and_both, T_of}
use Rattle.arith.specs.Status.{allowed, only}
use Rattle.effect.specs.State.{state_words, pc_at, delay_at, target_at, sr_at, epcr_at, esr_at, link_at, link_address_at, mode_at, picmr_at}
use Rattle.effect.specs.Board.{Board}
use Rattle.commit.specs.Commit.{word_at, core_count}
use Rattle.lawful.specs.Inner.{Mode, own, is_running_lem}
use Rattle.lawful.specs.Accepted.{accepted}
use Rattle.lawful.proofs.Accepted.{means_accepted}
use Rattle.refusal.specs.Lent.{board_of}
use Rattle.refusal.specs.Refusal.{every_from, memory_fits, states_fit, states_obey, max_schedule, schedule_fits, names_cores, levels_fit, limit_fits, cache_fits, entry_right, entries_right, fast_refusal}
use Rattle.refusal.proofs.Passes.{none_refused}
use Rattle.card.specs.Card.{Job}
use Rattle.std.specs.List.{list_all}
use Rattle.card.specs.Answer.{Sound}
use Rattle.job.specs.Job.{memory_of, reset_esr, reset_state, reset_states}
use Rattle.job.proofs.Laws.{length_memory, length_states, word_reset as reset-word, length_entries, every_entry}
use Rattle.play.specs.Output.{states_of, schedule_of, levels_of, empty_cache, lent_by}

equal : (m n : ℕ) → m ≡ n → T (eqb m n)
equal m n e = T_of (eqb m n) (eq-eqb m n e)

-- ---- states

-- each core's state is the reset state
word_reset : (entry sr n core k : ℕ) → core < n → k < state_words → word_at (reset_states entry sr n) core k ≡ get_or (reset_state entry sr) k 0
word_reset entry sr n core k h g =
    let m : (core * state_words + k) % state_words ≡ k = omega arith in
    reset-word entry sr n (core * state_words + k) (omega arith) ∙ ap (λ (i : ℕ). get_or (reset_state entry sr) i 0) m

allowed_reset : allowed reset_esr ≡ reset_esr
unfolding allowed only
allowed_reset = refl

module _ (entry sr n : ℕ) (h : entry % 4 ≡ 0) (g : allowed sr ≡ sr) where
  reset_accepted : (board : Board) (core : ℕ) → core < n → T (accepted board (reset_states entry sr n) core)
  reset_accepted board core b =
      let w0 : word_at (reset_states entry sr n) core 0 ≡ 0 = word_reset entry sr n core 0 b (lit< tt) in
      let pc : word_at (reset_states entry sr n) core pc_at ≡ entry = word_reset entry sr n core pc_at b (lit< tt) in
      let delay : word_at (reset_states entry sr n) core delay_at ≡ 0 = word_reset entry sr n core delay_at b (lit< tt) in
      let target : word_at (reset_states entry sr n) core target_at ≡ 0 = word_reset entry sr n core target_at b (lit< tt) in
      let status : word_at (reset_states entry sr n) core sr_at ≡ sr = word_reset entry sr n core sr_at b (lit< tt) in
      let epcr : word_at (reset_states entry sr n) core epcr_at ≡ 0 = word_reset entry sr n core epcr_at b (lit< tt) in
      let esr : word_at (reset_states entry sr n) core esr_at ≡ reset_esr = word_reset entry sr n core esr_at b (lit< tt) in
      let link : word_at (reset_states entry sr n) core link_at ≡ 0 = word_reset entry sr n core link_at b (lit< tt) in
      let address : word_at (reset_states entry sr n) core link_address_at ≡ 0 = word_reset entry sr n core link_address_at b (lit< tt) in
      let mode : word_at (reset_states entry sr n) core mode_at ≡ 3 = word_reset entry sr n core mode_at b (lit< tt) in
      let picmr : word_at (reset_states entry sr n) core picmr_at ≡ 3 = word_reset entry sr n core picmr_at b (lit< tt) in
      means_accepted board (reset_states entry sr n) core
      (record {
        zero_register = w0;
        flow_lawful = record { delay_bit = omega arith; pc_multiple = ap (λ (x : ℕ). x % 4) pc ∙ h; target_multiple = ap (λ (x : ℕ). x % 4) target; no_target = λ _. target };
        link_lawful = record { held_bit = omega arith; address_multiple = ap (λ (x : ℕ). x % 4) address; no_address = λ _. address };
        sr_lawful = subst (λ (x : ℕ). allowed x ≡ x) (sym status) g;
        epcr_lawful = ap (λ (x : ℕ). x % 4) epcr;
        esr_lawful = subst (λ (x : ℕ). allowed x ≡ x) (sym esr) allowed_reset;
        mode_lawful = subst (Mode core) (sym mode) (own is_running_lem);
        mask_lawful = ap (λ (x : ℕ). x % 4) picmr;
      })

  reset_obeys : (board : Board) → T (states_obey board (reset_states entry sr n))
  unfolding states_obey
  reset_obeys board =
      let l : length (reset_states entry sr n) ≡ n * state_words = length_states entry sr n in
      of_below (accepted board (reset_states entry sr n)) (core_count (reset_states entry sr n)) (λ core b. reset_accepted board core (omega arith))

-- ---- schedule and cache

every_from_lem : (cores : ℕ) (l : List ℕ) (i : ℕ) → T (list_all (λ d. ltb d cores) l) → T (every_from (λ i core. ltb core cores) i l)
unfolding every_from
every_from_lem cores [] i t = tt
every_from_lem cores (x ∷ l) i t =
    let a : T (ltb x cores) = and_left (ltb x cores) (list_all (λ d. ltb d cores) l) t in
    let b : T (list_all (λ d. ltb d cores) l) = and_right (ltb x cores) (list_all (λ d. ltb d cores) l) t in
    and_both (ltb x cores) (every_from (λ i core. ltb core cores) (i + 1) l) a (every_from_lem cores l (i + 1) b)

empty_right : (board : Board) (mem : List ℕ) (n i : ℕ) → T (every_from (entry_right board mem) i (replicate n 0))
unfolding every_from
empty_right board mem zero i = tt
empty_right board mem (suc n) i = empty_right board mem n (i + 1)

-- ---- the tests

below : (m n : ℕ) → m ≤ n → T (leb m n)
below m n h = T_of (leb m n) (le-leb m n h)

memory_fits_lem : (n : ℕ) → 4096 ≤ n → n ≤ 16384 → n % 4 ≡ 0 → T (memory_fits n)
unfolding memory_fits
memory_fits_lem n l h m =
    and_both (leb 4096 n) _ (below 4096 n l) (and_both (leb n 1048576) (eqb (n % 4) 0) (below n 1048576 (omega arith)) (equal (n % 4) 0 m))

states_fit_lem : (n : ℕ) → n % state_words ≡ 0 → 1 ≤ n / state_words → n / state_words ≤ 4 → T (states_fit n)
unfolding states_fit
states_fit_lem n m l h =
    let k = n / state_words in
    and_both (eqb (n % state_words) 0) _ (equal (n % state_words) 0 m) (and_both (leb 1 k) (leb k 4) (below 1 k l) (below k 4 h))

module _ (vectors : List ℕ) (f : T (vectors_fit vectors)) (j : Job) (h : Sound j) where
  pub job_accepted : fast_refusal (lent_by vectors j) (empty_cache j) ≡ 0
  unfolding schedule_fits names_cores levels_fit limit_fits cache_fits entries_right
  job_accepted =
      let m : length (memory_of j) ≡ j.memory = length_memory j in
      let s : length (states_of j) ≡ j.cores * state_words = length_states j.entry j.sr j.cores in
      let n : length (schedule_of j) ≡ j.steps = length_entries j.schedule j.steps in
      let c : length (states_of j) / state_words ≡ j.cores = omega arith in
      let e : length (empty_cache j) ≡ length (memory_of j) / 4 = length-replicate (j.memory / 4) 0 ∙ ap (λ (k : ℕ). k / 4) (sym m) in
      none_refused (lent_by vectors j) (empty_cache j)
      (record {
        memory_fits_lem = rw m (memory_fits_lem j.memory h.memory_low h.memory_high h.memory_multiple);
        states_fit_lem = states_fit_lem (length (states_of j)) (omega arith) (omega (arith, h.cores_low)) (omega (arith, h.cores_high));
        states_obey_lem = reset_obeys j.entry j.sr j.cores h.entry_multiple h.sr_allowed (board_of (lent_by vectors j));
        schedule_fits_lem = below (length (schedule_of j)) max_schedule (omega (arith, h.steps_high));
        names_cores_lem =
            rw c (every_from_lem j.cores (schedule_of j) 0 (every_entry (λ d. ltb d j.cores) j.schedule j.steps (omega (arith, h.digits_low)) h.cores_named));
        levels_fit_lem = equal (length (levels_of j)) (length (schedule_of j)) (length-replicate j.steps 0 ∙ sym n);
        limit_fits_lem = below 0 (length (memory_of j)) (omega arith);
        vectors_fit_lem = f;
      })
      (record {
        cache_fits_lem = equal (length (empty_cache j)) (length (memory_of j) / 4) e;
        entries_right_lem = empty_right (board_of (lent_by vectors j)) (memory_of j) (j.memory / 4) 0;
      })
