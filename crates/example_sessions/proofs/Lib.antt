pub mod Denied
pub mod Ended
pub mod Records
pub mod Replies
