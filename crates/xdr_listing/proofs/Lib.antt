pub mod Firsts
pub mod Joined
pub mod Numbers
pub mod Places
pub mod Tokens
