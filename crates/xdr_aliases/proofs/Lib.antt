pub mod Following
pub mod Giving
pub mod Numbered
pub mod Staying
