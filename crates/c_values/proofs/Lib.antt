mod Argument
mod Encoded
pub mod Judging
mod Lacking
mod Nothing
mod Pair
mod Parting
mod Records
pub mod Showing
mod Slot
mod Reported
mod Telling
mod Putting
mod Refused
mod Several
mod Filling
mod Encodings
