-- Result: document 01. Answer: what the two writers do with the text.
pub mod Result
pub mod Answer
