pub mod Laws
pub mod Whole
pub mod Bounds
mod Examples
pub mod Earlier
