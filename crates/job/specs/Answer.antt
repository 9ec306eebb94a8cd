-- What the functions of this crate promise, in one record where they say more than one thing.
use Rattle.std.specs.Prelude.{ℕ, ◌≡◌, List, Result, Ok, Err}
use Rattle.card.specs.Answer.{told, answered, Bounds}
use Rattle.card.specs.declared.Job.{Job}
use Rattle.card.specs.declared.Refused.{Refused}
use Rattle.job.specs.Job.{reading, image_after}

abbrev pub Held : List ℕ → Result Job Refused → Type 0
Held card (Ok j) = Bounds card j
Held card (Err r) = Unit

-- a card read with an image lent: the answer, the image afterwards, and the bounds that a good job keeps to
pub record ReadJob (card image after : List ℕ) (r : Result Job Refused) : Type 0 where
  pub says : told r ≡ answered card (reading card image)
  pub written : after ≡ image_after (reading card image) image
  pub held : Held card r
