-- Laws of the definitions: no function here.
pub mod Reaches
pub mod Table
pub mod Sound
pub mod Accepted
pub mod Lawful
pub mod Jumps
pub mod Commit
pub mod Links
pub mod States
pub mod Instruction
pub mod Limit
pub mod Raised
