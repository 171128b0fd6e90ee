pub mod Holes
pub mod Filled
pub mod Private
