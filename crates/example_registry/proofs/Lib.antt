pub mod Streams
pub mod Replies
pub mod Waiting
pub mod Messages
