-- Tokens (RFC 4506 section 6.2).
use Rattle.std.specs.Prelude.{ℕ, ℤ, List, map}
use Rattle.xdr_tokens.specs.declared.token.Keyword.{Keyword}
use Rattle.xdr_tokens.specs.declared.token.Mark.{Mark}
use Rattle.xdr_tokens.specs.declared.token.Token.{Token}
use Rattle.xdr_tokens.specs.declared.token.Token.TheVariants as code

-- a keyword, a name, a constant or a mark
pub data Lexeme : Type 0 where
  Word : Keyword → Lexeme
  Name : List ℕ → Lexeme
  Number : ℤ → Lexeme
  Sign : Mark → Lexeme

-- a token without its place
abbrev pub lexeme : Token → Lexeme
lexeme (code.Word w left) = Word w
lexeme (code.Name n left) = Name n.now
lexeme (code.Number n left) = Number n
lexeme (code.Sign m left) = Sign m

-- tokens without their places
abbrev pub lexemes : List Token → List Lexeme
lexemes ts = map lexeme ts
