pub mod Uaddrs
pub mod Laws
