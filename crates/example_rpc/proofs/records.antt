pub mod Refused
pub mod Handed
pub mod Limited
pub mod Put
