-- Definitions that only private functions cite: the steps of the code. No contract of a public call names any of it.
pub mod Gathered
pub mod Hexed
pub mod Judged
pub mod Meant
pub mod Printed
pub mod Reading
