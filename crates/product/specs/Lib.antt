-- What document 02 says of products, quotients and the accumulator: note 2.
pub mod Product
pub mod Accumulate
