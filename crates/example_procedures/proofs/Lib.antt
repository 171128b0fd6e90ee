pub mod Decimals
pub mod Numbered
pub mod Texts
pub mod Worked
