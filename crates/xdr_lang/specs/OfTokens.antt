-- What tokens mean, whatever text they were cut from.
use Rattle.std.specs.Prelude.{List}
use Rattle.xdr_tokens.specs.Tokens.{Lexeme}
use Rattle.xdr_grammar.specs.Outline.{Outline}
use Rattle.xdr_grammar.specs.Spelled.{IsOutline}
use Rattle.xdr_lang.specs.Declarations.{Declared}
use Rattle.xdr_lang.specs.Means.{IsMeant}

-- The tokens spell definitions, and these have a meaning (RFC 4506 sections 6.3 and 6.4).
pub record TokensMean (tokens : List Lexeme) (d : Declared) : Type 0 where
  pub outline : Outline
  pub spelled : IsOutline tokens outline
  pub meant : IsMeant outline d
