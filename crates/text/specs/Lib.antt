-- Digits, Numbers and Lines: document 01. Ascii: quoted text as bytes. Inner serves the code.
pub mod Digits
pub mod Numbers
pub mod Lines
pub mod Ascii
pub mod Inner
