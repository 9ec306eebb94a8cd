-- Linked cores, then both runs whole. Inner serves the code and the proofs.
pub mod Linked
pub mod Run
pub mod Inner
