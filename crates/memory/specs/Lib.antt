-- Memory and accesses to it, as document 01 has them.
pub mod Memory
