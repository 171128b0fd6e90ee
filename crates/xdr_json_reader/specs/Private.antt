-- Definitions that only private functions cite. No contract of a public call names any of it.
pub mod Frames
pub mod Begun
pub mod Steps
pub mod Pending
pub mod Look
pub mod Leaves
pub mod Entries
pub mod Groups
pub mod Chosen
pub mod Fields
pub mod Names
pub mod Limited
pub mod Wanted
pub mod Walk
