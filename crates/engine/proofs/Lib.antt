-- Answers: what is accepted, and the answers. BothRuns: demand 3 of two answers. ReadOnly: what they leave below the limit.
pub mod Answers
pub mod BothRuns
pub mod ReadOnly
