-- The rules on a list of vectors.
pub mod Rules
