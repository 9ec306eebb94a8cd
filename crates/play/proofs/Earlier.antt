-- What note 7 of document 02 promises of the cards before it. Assumes nothing.
use mathlib.Core.Path.{◌≡◌, ap, sym, ◌∙◌}
use mathlib.Core.List.{List}
use Prim.Native.Nat.{ℕ}
use Rattle.card.specs.Card.{Job, good, refused, form_fault}
use Rattle.card.specs.Earlier.{earlier_says, with_sr}
use Rattle.card.proofs.Earlier.{earlier_good, earlier_refused}
use Rattle.vectors_file.specs.File.{File, vectors_say}
use Rattle.play.specs.Output.{output_of, output}
use Rattle.play.specs.Earlier.{earlier_output}

module _ (file : File) (card : List ℕ) {j : Job} (e : earlier_says card ≡ good j) where
  -- "with 00008001 put in, the printed run equals the earlier one"
  pub earlier_run : output file (with_sr card) ≡ earlier_output file card
  unfolding output earlier_output
  earlier_run = ap (output_of (vectors_say file)) (earlier_good card e ∙ sym e)

  -- "Cards taken until now lack the line and so meet 9 at line 4"
  pub earlier_lacks : output file card ≡ output_of (vectors_say file) (refused form_fault 4)
  unfolding output
  earlier_lacks = ap (output_of (vectors_say file)) (earlier_refused card e)
