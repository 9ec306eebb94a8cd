-- Commit: what an effect leaves. Inner serves the code.
pub mod Commit
pub mod Inner
