pub mod Bounds
pub mod Private
