-- What the reader is given and what it answers, in the paper's terms.
use Rattle.std.specs.Prelude.{ℕ, List, Result, Ok, Err}
use Rattle.card.specs.Card.{Verdict, good, refused}
use Rattle.card.specs.Answer.{refusal}
use Rattle.card.specs.declared.Refused.{Refused}
use Rattle.vectors_file.specs.File.{File, bytes, absent, unreadable}
use Rattle.vectors_file.specs.declared.Source.{Source}
use Rattle.vectors_file.specs.declared.Source.TheVariants.{Bytes, Absent, Unreadable}

-- the file, by how it was found and the bytes that were read
abbrev pub file_of : Source → File
file_of (Bytes file) = bytes file.now
file_of Absent = absent
file_of Unreadable = unreadable

-- the list, or the refusal with its number
abbrev pub told : Result (List ℕ) Refused → Verdict (List ℕ)
told (Ok list) = good list
told (Err r) = refused (refusal r.cause) r.line
