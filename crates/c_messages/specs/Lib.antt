pub mod Parts
pub mod Statuses
pub mod Buffers
pub mod Calls
pub mod Replies
pub mod Credentials
