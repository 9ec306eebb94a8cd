-- The causes of exceptions and their vectors: document 01, "One instruction"; document 02, notes 4 and 6.
use Rattle.std.specs.Prelude.{List, [], ◌∷◌, map, ℕ, get_or}
use Rattle.isa.specs.declared.vectors.Cause.{Cause}
use Rattle.isa.specs.declared.vectors.Cause.TheVariants.{Bus, Alignment, Illegal, Range, Syscall, Trap, Interrupt}

-- "Vectors: bus 200, alignment 600, illegal 700, range b00, syscall c00, trap e00." Document 02, note 4: "the step takes vector 800"
abbrev pub old_vector : Cause → ℕ
old_vector Bus = 0x200
old_vector Alignment = 0x600
old_vector Illegal = 0x700
old_vector Range = 0xb00
old_vector Syscall = 0xc00
old_vector Trap = 0xe00
old_vector Interrupt = 0x800

-- Document 02, note 6: "bus, align, illegal, range, syscall, trap, interrupt, .. in that order"
abbrev pub causes : List Cause
causes = Bus ∷ Alignment ∷ Illegal ∷ Range ∷ Syscall ∷ Trap ∷ Interrupt ∷ []

-- "With no such file the old list holds."
abbrev pub old_vectors : List ℕ
old_vectors = map old_vector causes

-- how many vectors a list has, and a cause's place among them
abbrev pub vector_count : ℕ
vector_count = 7

abbrev pub place_of : Cause → ℕ
place_of Bus = 0
place_of Alignment = 1
place_of Illegal = 2
place_of Range = 3
place_of Syscall = 4
place_of Trap = 5
place_of Interrupt = 6

-- "whatever list passed loading, the step rules are read with it": where they name a cause's vector, it is the list's
abbrev pub vector : List ℕ → Cause → ℕ
vector vectors cause = get_or vectors (place_of cause) 0
