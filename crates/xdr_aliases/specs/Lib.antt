pub use Rattle.xdr_tokens.specs.Tokens
pub use Rattle.xdr_dialect.specs.Tests
pub mod Aliases
pub mod Laws
pub mod Numbered
