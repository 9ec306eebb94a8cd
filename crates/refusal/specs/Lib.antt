-- Lent: what a run is lent. Refusal: what is turned back. Inner serves the code.
pub mod Lent
pub mod Refusal
pub mod Inner
