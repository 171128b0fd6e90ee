pub mod Buffers
pub mod Outcomes
