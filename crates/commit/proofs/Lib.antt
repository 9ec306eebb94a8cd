pub mod Commits
pub mod Own
