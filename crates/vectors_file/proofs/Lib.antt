-- Laws: for those who run with the list that a file says.
pub mod Lines
pub mod Laws
mod Examples
