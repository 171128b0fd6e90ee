pub mod Bounds
pub mod Represents
pub mod Events
pub mod Interleaved
pub mod Progress
pub mod Laws
pub mod Private
