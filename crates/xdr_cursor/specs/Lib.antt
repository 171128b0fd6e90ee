pub mod Frames
pub mod Standing
pub mod Coming
pub mod Private
