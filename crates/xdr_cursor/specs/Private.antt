pub mod Showing
pub mod Stepping
pub mod Passing
