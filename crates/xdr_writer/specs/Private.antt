-- Definitions that only private functions cite: the steps of the code. No contract of a public call names any of it.
pub mod Bytes
pub mod Becomes
pub mod Judged
pub mod After
pub mod Runs
