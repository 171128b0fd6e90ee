pub mod Slot
pub mod Holding
pub mod Parts
pub mod Answered
pub mod Root
