-- What each kind does.
pub mod Meaning
