pub mod Read
pub mod Told
pub mod First
