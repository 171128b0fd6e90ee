pub mod Transports
pub mod Own
pub mod Steps
pub mod Listed
pub mod Fitting
pub mod Addable
