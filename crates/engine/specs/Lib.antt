-- What both runs promise.
pub mod Answer
