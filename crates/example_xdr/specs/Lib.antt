pub mod Lent
pub mod LookUps
pub mod Pair
pub mod Refusal
pub mod Rfc
pub mod Reported
pub mod Optional
pub mod Counted
