pub mod Nodes
pub mod Numbers
pub mod Paths
pub mod Private
