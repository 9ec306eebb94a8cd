-- Job: document 01. Answer: what the card reader promises.
pub mod Job
pub mod Answer
