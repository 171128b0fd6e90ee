pub mod Bytes
pub mod Cutting
pub mod Found
pub mod Parsed
