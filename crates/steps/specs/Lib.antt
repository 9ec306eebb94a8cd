-- An entry of both runs, for its own core: Counts; Plain; Fast, which builds on it; History. Inner serves the code and the proofs.
pub mod Counts
pub mod Plain
pub mod Fast
pub mod History
pub mod Inner
