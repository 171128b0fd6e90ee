pub mod Joined
pub mod Owned
pub mod Places
pub mod Sections
pub mod Same
pub mod Staying
pub mod Constructed
pub mod Lined
