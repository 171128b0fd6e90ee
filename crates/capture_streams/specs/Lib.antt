pub mod Segments
pub mod Held
pub mod Represents
pub mod Taking
pub mod Laws
pub mod Private
