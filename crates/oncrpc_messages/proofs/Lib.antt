pub mod Encoded
pub mod Kept
pub mod Known
pub mod Valued
