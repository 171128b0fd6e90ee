pub mod Spelled
pub mod Programs
