-- Proofs.
pub mod Bytes
pub mod Holding
pub mod Putting
pub mod Firsts
pub mod Filling
pub mod Stepping
pub mod Given
pub mod Delivering
pub mod Skipping
pub mod Wanting
pub mod Counting
pub mod Numbers
