pub mod Groups
pub mod Overflow
