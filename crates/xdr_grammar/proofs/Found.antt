-- Soundness: what is read is the spelling of a tree.
pub mod Declarations
pub mod Bodies
pub mod Unions
pub mod Specifiers
pub mod Programs
pub mod Definitions
