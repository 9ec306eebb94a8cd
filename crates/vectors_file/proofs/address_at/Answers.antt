use mathlib.Core.Path.{◌∙◌}
use Rattle.std.proofs.lemmas.List.{get_or-map}
use Rattle.text.specs.Ascii.{ascii}
use Rattle.vectors_file.specs.File.{keys}
use Rattle.vectors_file.proofs.address_at.Goals as goal

pub returns : goal.returns
returns c =
    let e = c.key_at.ensures ∙ get_or-map ascii keys c.args.i "" (ascii "") c.requires in
    (rw e at c.value_at.ensures.0, c.value_at.ensures.1)
