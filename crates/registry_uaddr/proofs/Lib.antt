pub mod Inverse
pub mod Back
pub mod Chain
pub mod Octets
pub mod Digits
pub mod Fronts
