pub mod Lying
pub mod Written
