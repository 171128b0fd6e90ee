-- What only private functions cite: how the code holds types, and in which pieces it writes.
pub mod Firsts
pub mod Held
pub mod Pieces
pub mod Tokens
