pub mod Fronts
pub mod Reading
pub mod Seeking
pub mod Telling
pub mod Once
pub mod Holes
