-- Tests: rules and tests over lists. Passes: what is not refused, by name.
pub mod Tests
pub mod Passes
