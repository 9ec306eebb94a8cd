-- Laws. Callers cite those of Bit, Status, Sums, Shift and Place.
pub mod Bit
pub mod Signed
pub mod Status
pub mod Integer
pub mod Sums
pub mod Shift
pub mod Place
