-- What becomes of the output in the bytes that the caller lends.
use Rattle.std.specs.Prelude.{Result, IfOk, List, ◌≡◌, ℕ, ◌≤◌, length}
use Rattle.card.specs.Card.{max_cores}
use Rattle.report.specs.Answer.{answer, written, result_room}
use Rattle.report.specs.declared.TooSmall.{TooSmall}

-- the room for the longest output, the result of four cores
abbrev pub output_room : ℕ
output_room = result_room max_cores

-- a text written at the start of out, which is out' afterwards, and the answer r; nothing is written if out has not the room for the longest output.
-- The bytes that r counts are among those of out
pub record Printed (text out out' : List ℕ) (r : Result ℕ TooSmall) : Type 0 where
  pub says : r ≡ answer output_room text out
  pub left : out' ≡ written output_room text out
  pub among : IfOk r (λ k. k ≤ length out)
