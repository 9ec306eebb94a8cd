-- What a writer of text does to the bytes that the caller lends.
use Rattle.std.specs.Prelude.{◌≡◌, List, ℕ, ◌+◌, ◌≤◌, length}
use Rattle.std.proofs.lemmas.List.Edits.{sets}
use Rattle.print.specs.declared.Writer.{Writer}

-- there is room for a text
abbrev pub Fits : Writer → List ℕ → Type 0
Fits w text = w.at + length text ≤ length w.out.now

-- a text is put into the bytes from the writer's place on, and the place moves past it. That the length stays follows; it stands here because callers count
-- with it
pub record Puts (before : Writer) (text : List ℕ) (after : Writer) : Type 0 where
  pub same_reference : after.out.ghost_name ≡ before.out.ghost_name
  pub stored : after.out.now ≡ sets before.out.now before.at text
  pub ends : after.at ≡ before.at + length text
  pub kept : length after.out.now ≡ length before.out.now
