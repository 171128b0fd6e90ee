pub mod Gathering
pub mod Given
pub mod Outcomes
pub mod Putting
