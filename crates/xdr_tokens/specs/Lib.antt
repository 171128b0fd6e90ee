pub mod Tokens
pub mod Due
pub mod Options
pub mod Bytes
pub mod Keywords
pub mod Text
pub mod Refusals
pub mod Private
