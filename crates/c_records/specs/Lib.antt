pub mod Ended
pub mod Fed
pub mod Headed
pub mod Held
pub mod Buffers
pub mod Started
pub mod Statuses
pub mod Taken
