-- File: document 02, note 6. Answer: what the reader answers.
pub mod File
pub mod Answer
