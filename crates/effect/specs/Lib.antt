-- One instruction: State names the places of a core's state, Board has what all cores share, Effect says what an instruction may do. Inner serves the code.
pub mod State
pub mod Board
pub mod Effect
pub mod Inner
