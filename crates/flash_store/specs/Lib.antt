pub mod Buffering
pub mod Files
