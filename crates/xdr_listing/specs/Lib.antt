pub mod JsonListing
pub mod Listing
pub mod Private
pub mod Words
