pub mod Ending
pub mod Finishing
pub mod Following
pub mod Lists
pub mod Reporting
pub mod Texts
pub mod Walks
