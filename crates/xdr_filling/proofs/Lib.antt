pub mod Going
pub mod Making
pub mod Running
pub mod Opening
pub mod Units
