pub mod Counted
pub mod Cut
