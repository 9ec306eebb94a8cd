-- Every entry's registers are registers. Assumes nothing.
use Prim.Native.Nat.{ℕ}
use native.Mathlib.Omega.{arith}
use Rattle.isa.specs.Entry.{fields_of}
use Rattle.isa.specs.Register.{Registers}

pub fields_registers : (entry : ℕ) → Registers (fields_of entry)
fields_registers entry = record { d = omega arith; a = omega arith; b = omega arith }
