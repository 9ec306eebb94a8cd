-- A run's test of a core's state says that the state obeys the rules, and only then passes. Assumes nothing.
use mathlib.Core.Bool.{Bool, true, false, ◌&&◌, ◌||◌, not}
use mathlib.Core.List.{List, [], ◌∷◌}
use mathlib.Core.Path.{◌≡◌, refl, sym, subst}
use Prim.Native.Nat.{ℕ}
use lib.Dec.{T, eqb, ltb, eqb→eq, leb→le, le→leb, ltb→lt, lt→ltb}
use borrow.Author.Tests.{eq-eqb, eqb-true}
use Rattle.bits.proofs.Tests.{and_left, and_right, and_both, T_of, Each}
use Rattle.effect.specs.State.{halted, linked, running, is_mode, all, rules}
use Rattle.effect.specs.Board.{Board}
use Rattle.commit.specs.Commit.{word_at}
use Rattle.lawful.specs.Inner.{is_halted, is_running_lem, Mode, own, is_linked_lem}
use Rattle.lawful.specs.Accepted.{accepted, Accepted}

each_of : (l : List Bool) → T (all l) → Each l
each_of [] t = tt
each_of (b ∷ l) t = (and_left b (all l) t, each_of l (and_right b (all l) t))

of_each : (l : List Bool) → Each l → T (all l)
of_each [] t = tt
of_each (b ∷ l) t = and_both b (all l) t.0 (of_each l t.1)

same : (m n : ℕ) → m ≡ n → T (eqb m n)
same m n e = T_of (eqb m n) (eq-eqb m n e)

-- a rule with a condition
when_zero : (m n : ℕ) → T (not (eqb m 0) || eqb n 0) → m ≡ 0 → n ≡ 0
when_zero m n t e = eqb→eq n 0 (rw (eq-eqb m 0 e) at t)

zero_when : (m n : ℕ) → (m ≡ 0 → n ≡ 0) → T (not (eqb m 0) || eqb n 0)
zero_when m n f = go (eqb m 0) refl
  where
    go : (b : Bool) → eqb m 0 ≡ b → T (not b || eqb n 0)
    go true e = same n 0 (f (eqb-true m 0 e))
    go false e = tt

module _ (core : ℕ) where
  mode_of : (m : ℕ) → T (is_mode core m) → Mode core m
  mode_of m t = go (eqb m halted) refl (eqb m running) refl (eqb m linked) refl t
    where
      go : (a : Bool) → eqb m halted ≡ a → (b : Bool) → eqb m running ≡ b → (d : Bool) → eqb m linked ≡ d → T (a || (b || (d && ltb 0 core))) → Mode core m
      go true e b f d g u = subst (Mode core) (sym (eqb-true m halted e)) (own is_halted)
      go false e true f d g u = subst (Mode core) (sym (eqb-true m running f)) (own is_running_lem)
      go false e false f true g u = subst (Mode core) (sym (eqb-true m linked g)) (is_linked_lem (ltb→lt 0 core u))
      go false e false f false g u = absurd u

  of_mode : {m : ℕ} → Mode core m → T (is_mode core m)
  of_mode (own is_halted) = tt
  of_mode (own is_running_lem) = tt
  of_mode (is_linked_lem h) = lt→ltb 0 core h

module _ (board : Board) (s : List ℕ) (core : ℕ) where
  pub accepted_means : T (accepted board s core) → Accepted board s core
  unfolding accepted
  accepted_means t =
      let g : ℕ → ℕ = word_at s core in
      let h : Each (rules board core g) = each_of (rules board core g) t in
      record {
        zero_register = eqb→eq _ 0 h.1.1.1.0;
        flow_lawful = record {
          delay_bit = leb→le _ 1 h.0;
          pc_multiple = eqb→eq _ 0 h.1.1.1.1.0;
          target_multiple = eqb→eq _ 0 h.1.1.1.1.1.0;
          no_target = when_zero _ _ h.1.1.1.1.1.1.1.1.0;
        };
        link_lawful = record {
          held_bit = leb→le _ 1 h.1.0;
          address_multiple = eqb→eq _ 0 h.1.1.1.1.1.1.1.0;
          no_address = when_zero _ _ h.1.1.1.1.1.1.1.1.1.0;
        };
        sr_lawful = eqb→eq _ _ h.1.1.1.1.1.1.1.1.1.1.0;
        epcr_lawful = eqb→eq _ 0 h.1.1.1.1.1.1.0;
        esr_lawful = eqb→eq _ _ h.1.1.1.1.1.1.1.1.1.1.1.0;
        mode_lawful = mode_of core _ h.1.1.0;
        mask_lawful = eqb→eq _ 3 h.1.1.1.1.1.1.1.1.1.1.1.1.0;
      }

  pub means_accepted : Accepted board s core → T (accepted board s core)
  unfolding accepted
  means_accepted a =
      let f = a.flow_lawful in
      let l = a.link_lawful in
      of_each (rules board core (word_at s core)) (
        le→leb _ 1 f.delay_bit,
        (
          le→leb _ 1 l.held_bit,
          (
            of_mode core a.mode_lawful,
            (
              same _ 0 a.zero_register,
              (
                same _ 0 f.pc_multiple,
                (
                  same _ 0 f.target_multiple,
                  (
                    same _ 0 a.epcr_lawful,
                    (
                      same _ 0 l.address_multiple,
                      (
                        zero_when _ _ f.no_target,
                        (zero_when _ _ l.no_address, (same _ _ a.sr_lawful, (same _ _ a.esr_lawful, (same _ 3 a.mask_lawful, tt)))),
                      ),
                    ),
                  ),
                ),
              ),
            ),
          ),
        ),
      )
