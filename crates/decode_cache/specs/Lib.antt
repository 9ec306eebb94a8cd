-- Cache: its entries. Inner serves the code.
pub mod Cache
pub mod Inner
