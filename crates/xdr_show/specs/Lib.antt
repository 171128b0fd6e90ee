pub mod Laws
pub mod Lent
pub mod Line
pub mod Private
pub mod Seen
pub mod Shown
