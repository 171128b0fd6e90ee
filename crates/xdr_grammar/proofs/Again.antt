-- Completeness: what is the spelling of a tree is read.
pub mod Begins
pub mod Long
pub mod Declarations
pub mod Bodies
pub mod Unions
pub mod Specifiers
pub mod Programs
pub mod Definitions
