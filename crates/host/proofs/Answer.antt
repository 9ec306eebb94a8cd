-- What the encoder promises, said of its answer's number. Assumes nothing.
use mathlib.Core.Path.{refl, ap}
use Prim.Native.Nat.{ℕ, ◌^◌, ◌<◌}
use native.Mathlib.Omega.{arith}
use Rattle.codec.specs.Encoding.{number, Encodes}
use Rattle.std.specs.Prelude.{Option, Some, None, MatchOption, ◌≡◌}
use Rattle.host.specs.Interface.{Answers}

pub answers : (e r : ℕ) (a : Option ℕ) → Encodes e a → MatchOption a (r ≡ 2 ^ 32) (λ w. r ≡ w) → Answers e r
answers e r (Some w) h is =
    let l : w < 2 ^ 32 = (h.sound refl).0 in
    rw is (record {
      exact = ap number h.exact;
      range = omega arith;
      sound = λ _. (h.sound refl).1;
      complete = λ q. absurd (omega arith);
    })
answers e r None h is =
    rw is (record {
      exact = ap number h.exact;
      range = omega arith;
      sound = λ l. absurd (omega arith);
      complete = λ q. h.complete refl;
    })
