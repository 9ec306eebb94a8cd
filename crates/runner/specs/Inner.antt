-- Where the bytes that were read lie in the buffer, and how the file of vectors was found. Which bytes came, and what opening the file answered, nobody can
-- say: examples/cards/check tries it.
use Rattle.std.specs.Prelude.{Result, Ok, Err, IfOk, List, ◌≡◌, ℕ, ◌+◌, ◌≤◌, length, take}
use Rattle.std.specs.declared.io.Error.{Error}
use Rattle.std.specs.declared.io.ErrorKind.{ErrorKind}
use Rattle.std.specs.declared.io.ErrorKind.TheVariants.{NotFound}
use Rattle.vectors_file.specs.File.{File, bytes, absent, unreadable}

-- as many bytes as the answer counts, from `at` on, lie in the buffer
abbrev pub Within : ℕ → List ℕ → Result ℕ Error → Type 0
Within at buf r = IfOk r (λ n. at + n ≤ length buf)

-- a read from `at` on: what came before it is kept
pub record More (at : ℕ) (buf buf' : List ℕ) (r : Result ℕ Error) : Type 0 where
  pub within : Within at buf' r
  pub kept : take at buf' ≡ take at buf

-- a file whose opening failed is absent by one error alone, that there is no such file: std has this kind for ENOENT, which is 2, and for no other
abbrev pub unopened_by : ErrorKind → File
unopened_by NotFound = absent
unopened_by _ = unreadable

-- a file that was opened has the bytes that came, which lie in the buffer, or cannot be read
abbrev pub opened_by : List ℕ → Result ℕ Error → File
opened_by buf (Ok n) = bytes (take n buf)
opened_by buf (Err _) = unreadable
