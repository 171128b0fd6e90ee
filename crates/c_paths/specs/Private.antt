pub mod Lending
pub mod Unfound
