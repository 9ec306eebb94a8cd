-- The states that a run accepts, and, in Inner, what the laws say of an effect.
pub mod Inner
pub mod Accepted
