pub mod Carried
pub mod Exact
pub mod Finding
pub mod Follows
pub mod Holes
pub mod Laws
pub mod Private
pub mod Sought
