pub use Rattle.xdr_tokens.specs.Due
pub use Rattle.xdr_tokens.specs.Options
pub use Rattle.xdr_grammar.specs.Outline
pub mod Constants
pub mod Views
pub mod Tables
pub mod Names
