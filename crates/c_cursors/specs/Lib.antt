pub mod Held
pub mod Begun
pub mod Given
pub mod Giving
pub mod Passing
pub mod Private
