-- Digits: document 01. Inner serves the code.
pub mod Digits
pub mod Inner
