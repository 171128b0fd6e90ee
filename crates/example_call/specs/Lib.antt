pub mod Refused
pub mod Squares
