pub mod Cutting
pub mod Outlining
pub mod Reporting
pub mod Schemas
pub mod Meanings
pub mod Answering
pub mod PlainTexts
