pub mod Alone
pub mod Amounts
pub mod Stepping
pub mod Keeping
pub mod Judging
pub mod Taking
pub mod Lending
pub mod Handing
