pub mod Callers
pub mod Endings
pub mod Faults
pub mod Loops
pub mod Places
