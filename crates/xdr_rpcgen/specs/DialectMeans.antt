-- What a text in rpcgen's dialect means (own).
use Rattle.std.specs.Prelude.{◌≡◌, ◌≤◌, ℕ, List, length, Ok}
use Rattle.xdr_tokens.specs.Tokens.{Lexeme}
use Rattle.xdr_tokens.specs.Text.{Tokens}
use Rattle.xdr_lang.specs.Declarations.{Declared}
use Rattle.xdr_lang.specs.OfTokens.{TokensMean}
use Rattle.xdr_dialect.specs.Plain as dialect
use Rattle.xdr_dialect.specs.Dialect.{meant}
use Rattle.xdr_aliases.specs.Aliases.{resolved}

-- The text, whose lines of % and # are left out, is cut into tokens, and what stands in their place means this, with
-- numbers in place of the names that stand for them.
pub record PlainMeans (plain : List ℕ) (d : Declared) : Type 0 where
  pub tokens : List Lexeme
  pub cut : Tokens plain tokens
  pub means : TokensMean (resolved (meant tokens)) d

-- The text is not too long, and without its lines of % and #, where these names are defined, it means this.
pub record DialectMeans (names : List (List ℕ)) (text : List ℕ) (d : Declared) : Type 0 where
  pub short : length text ≤ 262144
  pub plain : List ℕ
  pub without : dialect.plain names text ≡ Ok plain
  pub means : PlainMeans plain d
