pub mod DialectMeans
pub mod Laws
pub mod Files
pub mod Private
