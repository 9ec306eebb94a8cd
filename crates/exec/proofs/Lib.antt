pub mod Executes
mod Performs
