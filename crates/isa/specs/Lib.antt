pub mod InstructionSet
pub mod Groups
pub mod Entry
pub mod Register
pub mod Vectors
pub mod Inner
