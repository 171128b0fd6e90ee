pub mod Files
pub mod Frames
