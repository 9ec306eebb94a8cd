-- What document 01 says of words and flags: the bits of SR ("What is lent"), then "One instruction".
pub mod Bit
pub mod Status
pub mod Sums
pub mod Compare
pub mod Shift
pub mod Place
