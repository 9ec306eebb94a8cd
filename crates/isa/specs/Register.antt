-- The number of a register, from the word or the entry that names it to the word of a state that it is: document 02, note 3.
use Rattle.std.specs.Prelude.{ℕ, ◌<◌}
use Rattle.isa.specs.declared.entry.Fields.{Fields}

-- "inside the decoder D, A and B shall be carried as bytes, each shown to be below 32." That they are bytes is the code's: u8.
abbrev pub Register : ℕ → Type 0
Register n = n < 32

pub record Registers (f : Fields) : Type 0 where
  pub d : Register f.d
  pub a : Register f.a
  pub b : Register f.b
