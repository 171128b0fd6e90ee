-- Definitions that only private functions cite: the steps of the code. No contract of a public call names any of it.
pub mod Leaving
pub mod Steps
