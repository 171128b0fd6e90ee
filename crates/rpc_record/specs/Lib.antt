pub mod Marked
pub mod Reading
pub mod Fields
pub mod Represents
pub mod Failures
pub mod Streamed
pub mod Normalised
pub mod Private
