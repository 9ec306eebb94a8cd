-- Laws of texts, for the crates that read or write them.
mod Example
pub mod Places
pub mod Stores
