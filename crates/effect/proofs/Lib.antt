-- Stores: which actions store nothing.
pub mod Stores
