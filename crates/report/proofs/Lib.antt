-- Laws of the printed result, and document 01's example.
mod Example
pub mod Lines
pub mod Room
