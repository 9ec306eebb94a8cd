-- Output: documents 01 and 02. Answer: what is done with the text. Earlier: the output before note 7 of document 02. Inner serves the code.
pub mod Output
pub mod Answer
pub mod Earlier
pub mod Inner
