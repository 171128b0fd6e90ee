pub mod Memory
pub mod Past
pub mod Private
pub mod Reported
