pub mod Forms
pub mod Fetches
