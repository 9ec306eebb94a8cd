-- Laws of the runner's output.
pub mod Parts
pub mod Accepted
pub mod Printing
pub mod Lent
pub mod Earlier
