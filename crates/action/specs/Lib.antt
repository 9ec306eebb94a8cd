-- What each operation does.
pub mod Operations
