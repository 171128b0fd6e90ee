-- What only private functions cite: the steps of the code. No contract of a public call names any of it. `Same` and
-- `Alike` are proofs that the laws of `==` take, and code takes proofs of its own crate from here alone.
pub mod Lookups
pub mod Notes
pub mod Deciding
pub mod Judged
pub mod Rising
pub mod Rounds
pub mod Sets
pub mod Same
pub mod Alike
