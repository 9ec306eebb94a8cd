-- How the file of vectors was found. Assumes nothing.
use Rattle.std.proofs.Common.{List, ◌≡◌, refl, ℕ, ◌≤◌, length, rules}
use Rattle.std.specs.Prelude.{Result, Ok, Err}
use Rattle.std.specs.declared.io.Error.{Error}
use Rattle.std.specs.declared.io.ErrorKind.{ErrorKind}
use Rattle.std.specs.declared.io.ErrorKind.TheVariants.{NotFound}
use Rattle.vectors_file.specs.File.{bytes, absent, unreadable}
use Rattle.runner.specs.Inner.{Within, unopened_by, opened_by}

-- the kind of an error, as the code compares it
pub no_such_file : (error : ErrorKind) → error ≡ NotFound → absent ≡ unopened_by error
no_such_file error e = rw e

pub other_error : (error : ErrorKind) → (error ≡ NotFound → ⊥) → unreadable ≡ unopened_by error
other_error NotFound h = absurd (h refl)
other_error _ h = refl

-- the bytes that were read lie in the buffer
pub opened_within : (buf found : List ℕ) (read : Result ℕ Error) → Within 0 buf read → opened_by buf read ≡ bytes found → length found ≤ length buf
opened_within buf found (Ok n) h e = search rules
opened_within buf found (Err _) h e = search rules
