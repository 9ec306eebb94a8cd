pub mod Immediates
pub mod Complete
pub mod Pictures
pub mod Registers
pub mod Rows
pub mod Shapes
pub mod OldList
