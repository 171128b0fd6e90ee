pub mod Callers
pub mod Asking
pub mod Vouching
pub mod Addresses
pub mod From
pub mod Appending
pub mod Laws
pub mod Private
