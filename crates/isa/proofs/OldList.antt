-- The old list has document 01's vector for each cause. Assumes nothing.
use mathlib.Core.Path.{◌≡◌, refl}
use Rattle.isa.specs.Vectors.{old_vector, old_vectors, vector}
use Rattle.isa.specs.declared.vectors.Cause.{Cause}
use Rattle.isa.specs.declared.vectors.Cause.TheVariants.{Bus, Alignment, Illegal, Range, Syscall, Trap, Interrupt}

pub old_vector_lem : (cause : Cause) → vector old_vectors cause ≡ old_vector cause
old_vector_lem Bus = refl
old_vector_lem Alignment = refl
old_vector_lem Illegal = refl
old_vector_lem Range = refl
old_vector_lem Syscall = refl
old_vector_lem Trap = refl
old_vector_lem Interrupt = refl
