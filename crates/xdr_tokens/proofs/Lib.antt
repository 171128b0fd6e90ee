pub mod Ascii
pub mod Numbers
pub mod Options
pub mod Pieces
pub mod Whole
pub mod Words
