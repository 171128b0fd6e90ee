pub mod Onto
pub mod Showing
pub mod Moving
pub mod Ending
pub mod Starting
pub mod Deep
pub mod Passing
pub mod Skipping
