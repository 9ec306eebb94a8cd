-- What every instruction of a run is given beside its core's state: how many cores there are, the bytes at memory's start that are read-only (document 02, note
-- 5), and the list of vectors (note 6).
use Rattle.std.specs.Prelude.{List, ℕ}
use Rattle.effect.specs.declared.types.Board as code

pub record Board : Type 0 where
  pub cores : ℕ
  pub limit : ℕ
  pub vectors : List ℕ

-- of the code's board, to which the list is lent
abbrev pub board_of_code : code.Board → Board
board_of_code b = record { cores = b.cores; limit = b.limit; vectors = b.vectors.now }
