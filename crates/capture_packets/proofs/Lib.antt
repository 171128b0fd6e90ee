mod Extensions
mod Parts
mod Lying
mod Spelling
