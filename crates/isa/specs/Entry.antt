-- What a filled entry of the table holds: document 01, "What is lent", "Table".
use Rattle.std.specs.Prelude.{ℕ, ◌%◌, ◌^◌}
use Rattle.bits.specs.Word.{field}
use Rattle.isa.specs.declared.entry.Fields.{Fields}

-- "bits 63–56 kind, 46–42 D, 41–37 A, 36–32 B, 31–0 immediate"
abbrev pub kind_of_entry : ℕ → ℕ
kind_of_entry e = field e 56 8

abbrev pub fields_of : ℕ → Fields
fields_of e = record { d = field e 42 5; a = field e 37 5; b = field e 32 5; immediate = e % 2 ^ 32 }
