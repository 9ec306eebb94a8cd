-- The four parts of a packed answer are the answer's. Assumes nothing.
use mathlib.Core.Path.{◌≡◌, refl}
use Prim.Native.Nat.{ℕ, ◌+◌, ◌*◌, ◌/◌, ◌%◌, ◌^◌, ◌<◌}
use native.Mathlib.Omega.{arith}
use Rattle.refusal.specs.Refusal.{max_schedule}
use Rattle.steps.specs.Counts.{AtMost}
use Rattle.engine.specs.Answer.{Answer, number, counts_of, packed_answer}
use Rattle.host.specs.Interface.{Packs}

-- any number above three that are below 2^20
module _ (w z y x : ℕ) (k : z < 2 ^ 20) (l : y < 2 ^ 20) (m : x < 2 ^ 20) where
  packed_top : (w * 2 ^ 60 + z * 2 ^ 40 + y * 2 ^ 20 + x) / 2 ^ 60 ≡ w
  packed_top = omega arith

  packed_third : (w * 2 ^ 60 + z * 2 ^ 40 + y * 2 ^ 20 + x) / 2 ^ 40 % 2 ^ 20 ≡ z
  packed_third =
      let d : (w * 2 ^ 60 + z * 2 ^ 40 + y * 2 ^ 20 + x) / 2 ^ 40 ≡ w * 2 ^ 20 + z = omega arith in
      rw d (omega arith)

  packed_second : (w * 2 ^ 60 + z * 2 ^ 40 + y * 2 ^ 20 + x) / 2 ^ 20 % 2 ^ 20 ≡ y
  packed_second =
      let d : (w * 2 ^ 60 + z * 2 ^ 40 + y * 2 ^ 20 + x) / 2 ^ 20 ≡ (w * 2 ^ 20 + z) * 2 ^ 20 + y = omega arith in
      rw d (omega arith)

  packed_first : (w * 2 ^ 60 + z * 2 ^ 40 + y * 2 ^ 20 + x) % 2 ^ 20 ≡ x
  packed_first = omega arith

pub packs : (a : Answer) (r : ℕ) → AtMost max_schedule (counts_of a) → r ≡ packed_answer a → Packs a r
packs a r h e =
    let w = number a in
    let z = (counts_of a).reused in
    let y = (counts_of a).raised in
    let x = (counts_of a).executed in
    let k : z < 2 ^ 20 = omega arith in
    let l : y < 2 ^ 20 = omega arith in
    let m : x < 2 ^ 20 = omega arith in
    rw e (record {
      exact = refl;
      refusal = packed_top w z y x k l m;
      counts = rw (packed_first w z y x k l m, packed_second w z y x k l m, packed_third w z y x k l m);
    })
