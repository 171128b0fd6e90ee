pub mod Pair
pub mod Declarations
pub mod Rfc
