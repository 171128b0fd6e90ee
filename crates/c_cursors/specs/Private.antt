pub mod Beginning
pub mod Giving
