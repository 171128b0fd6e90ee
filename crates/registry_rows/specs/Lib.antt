pub mod Rows
pub mod Steps
pub mod LookUp
pub mod Columns
pub mod Keys
pub mod Views
pub mod Program
pub mod Ports
