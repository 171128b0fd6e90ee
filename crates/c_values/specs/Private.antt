pub mod Parting
pub mod Writing
pub mod Encodings
