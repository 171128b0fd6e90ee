pub mod Lent
pub mod Coming
pub mod Counted
pub mod Private
