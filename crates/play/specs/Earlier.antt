-- What the runner printed for cards before note 7 of document 02, for its promise: "with 00008001 put in, the printed run equals the earlier one." Nothing else
-- uses this.
use Rattle.std.specs.Prelude.{List, ℕ}
use Rattle.card.specs.Earlier.{earlier_says}
use Rattle.vectors_file.specs.File.{File, vectors_say}
use Rattle.play.specs.Output.{output_of}

-- the output by what an earlier card says; "Reset: .. SR and ESR 00008001", so its job has that SR
unfoldable pub earlier_output : File → List ℕ → List ℕ
earlier_output file card = output_of (vectors_say file) (earlier_says card)
