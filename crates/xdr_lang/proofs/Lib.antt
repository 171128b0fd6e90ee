pub mod Distinctly
pub mod Few
pub mod Older
pub mod Refusing
pub mod Sets
pub mod Sharing
pub mod Tables
