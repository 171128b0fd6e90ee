pub mod Installed
pub mod Meant
pub mod Names
pub mod Private
pub mod Programs
pub mod Unnamed
pub mod View
