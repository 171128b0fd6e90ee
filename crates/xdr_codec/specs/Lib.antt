pub mod Checks
pub mod Held
pub mod Outcomes
pub mod Refused
pub mod Settings
pub mod Represents
pub mod Private
