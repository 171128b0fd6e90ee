pub mod Callers
pub mod Procedures
pub mod Answer
pub mod Laws
pub mod Views
pub mod Answering
pub mod Owners
pub mod Private
