-- Laws that every other crate's proofs may cite.
pub mod Cases
pub mod Every
pub mod Extend
pub mod Lists
pub mod Tests
