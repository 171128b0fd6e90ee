pub mod Calls
pub mod Closed
pub mod Datagrams
pub mod Fed
pub mod Followed
pub mod Going
pub mod Printed
pub mod Through
