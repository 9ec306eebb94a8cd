-- Inner serves the code: what the runner's functions promise one another of a card that is read.
pub mod Inner
