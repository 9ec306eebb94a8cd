-- The definitions that those of the instruction set and of the run are written with: tests, fields of a word, signed numbers.
pub mod Every
pub mod Word
