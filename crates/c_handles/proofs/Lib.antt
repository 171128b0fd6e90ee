pub mod Sent
pub mod Handles
pub mod Slots
pub mod Values
