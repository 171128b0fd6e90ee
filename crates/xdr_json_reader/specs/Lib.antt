pub mod Tape
pub mod Nodes
pub mod Reasons
pub mod Places
pub mod Private
