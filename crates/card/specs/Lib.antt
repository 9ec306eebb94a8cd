-- Card: documents 01 and 02. Answer: what the reader answers. Earlier: cards before note 7 of document 02. Inner serves the code.
pub mod Card
pub mod Answer
pub mod Earlier
pub mod Inner
