-- Laws. Callers cite those of Products and Accumulated.
pub mod Signs
pub mod Products
pub mod Accumulated
