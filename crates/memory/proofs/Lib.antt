-- Laws: what other crates cite. Bytes: what only the proofs of the functions here cite. Halves: an access in parts.
pub mod Laws
pub mod Bytes
pub mod Halves
