pub mod Loop
pub mod Leaves
pub mod Rows
pub mod Found
pub mod Again
pub mod Outlining
