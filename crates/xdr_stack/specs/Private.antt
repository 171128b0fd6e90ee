-- Definitions that only private functions cite: a proof that a fact of blocks is one. No contract of a public call
-- names any of it.
pub mod Filled
