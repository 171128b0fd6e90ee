pub mod Arguments
pub mod Arrays
pub mod EncodeEnds
pub mod Encoding
pub mod Lines
pub mod Private
