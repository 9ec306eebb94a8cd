-- Interrupt: the note's definitions. Inner serves the code.
pub mod Interrupt
pub mod Inner
