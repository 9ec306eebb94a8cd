use Rattle.std.proofs.Common.{rules}
use mathlib.Core.Path.{◌≡◌, refl, sym, ap, ◌∙◌}
use Prim.Native.Nat.{◌<◌, ◌≤◌}
use native.Mathlib.Omega.{arith}
use lib.ListN.{get_or, length}
use Rattle.commit.specs.Commit.{core_count}
use Rattle.pic.proofs.Silent.{quiet_latched, quiet_low}
use Rattle.steps.specs.Inner.{fast_of, given_from}
use Rattle.steps.proofs.Cases.{grown, straight_undisturbed}
use Rattle.steps.proofs.Schedule.{from_next, from_end, given_kept, given_latched}
use Rattle.steps.proofs.entries.Goals as goal

pub loop-i-init : goal.loop-i-init
loop-i-init c =
    let p = c.requires.runnable in
    let zero = c.default-counts.ensures in
    record {
      left = rw (zero.0, zero.1.0, zero.1.1);
      small = record { executed_le = omega arith; raised_le = omega arith; reused_le = omega arith };
      accepted = p.accepted;
      right = p.right;
      unlatched = quiet_latched _ _;
    }

pub step-turn-requires-clause-pc_aligned : goal.step-turn-requires-clause-pc_aligned
step-turn-requires-clause-pc_aligned c =
    let l = c.loop-i in
    let t : l.i < length c.args.schedule.now = search rules in
    let n = c.requires.runnable.cores_there l.i t in
    (l.invariant.accepted _ (omega (arith, n))).flow_lawful.pc_multiple

pub step-turn-requires-clause-undisturbed : goal.step-turn-requires-clause-undisturbed
step-turn-requires-clause-undisturbed c =
    let l = c.loop-i in
    let core = get_or c.args.schedule.now l.i 0 in
    let t : l.i < length c.args.schedule.now = search rules in
    let n = c.requires.runnable.cores_there l.i t in
    let h : core < core_count l.states = omega (arith, n) in
    λ q. straight_undisturbed _ _ _ _ l.i refl (l.invariant.accepted core h).mode_lawful (λ z. l.invariant.unlatched z core h) (q ∙ c.straight_mode-straight.ensures)

pub loop-i-preserved : goal.loop-i-preserved
loop-i-preserved c =
    let l = c.loop-i in
    let test : l.i < length c.args.schedule.now = search rules in
    let p = c.requires.runnable in
    let v : c.unwrap.result.now ≡ c.args.vectors.now = search rules in
    let f = rw v at c.step-turn.ensures in
    let q = c.after-counts.ensures in
    let n = p.cores_there l.i test in
    let h : get_or c.args.schedule.now l.i 0 < core_count l.states = omega (arith, n) in
    let e = ap (fast_of _ _ _) q.0 ∙ f.left l.counts in
    let kept = given_kept _ _ _ _ h l.invariant.accepted l.invariant.right c.requires.form e p.vectors_lawful in
    record {
      left =
          ap (given_from _ _ _) e
          ∙ sym (from_next _ _ _ _ l.i _ refl test (omega (arith, test, p.one_level_each)))
          ∙ l.invariant.left;
      small = grown l.i l.invariant.small q.1;
      accepted = kept.0;
      right = kept.1;
      unlatched = λ z. given_latched _ _ _ _ h l.invariant.accepted l.invariant.right c.requires.form e (quiet_low _ _ z l.i) (l.invariant.unlatched z);
    }

pub returns : goal.returns
returns c =
    let l = c.loop-i in
    let all : length c.args.schedule.now ≤ l.i = search (rules, c.requires.runnable.few_entries) in
    record {
      left = sym (from_end _ _ _ _ l.i _ all) ∙ l.invariant.left;
      small = record { executed_le = omega arith; raised_le = omega arith; reused_le = omega arith };
    }
