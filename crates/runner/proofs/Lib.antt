-- Laws of the runner's buffers, and of the file of vectors that is read into one.
pub mod Parts
pub mod Files
