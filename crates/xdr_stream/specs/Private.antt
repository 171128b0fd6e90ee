-- Definitions that only private functions cite: the steps of the code. No contract of a public call names any of it.
pub mod Ahead
pub mod Alone
pub mod Entire
pub mod Leaf
pub mod Live
pub mod Made
pub mod Moves
pub mod Numbers
pub mod OneProof
pub mod Reported
pub mod Run
pub mod Runs
pub mod Sound
pub mod Whole
