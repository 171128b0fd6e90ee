-- The tokens that those of a text in rpcgen's dialect stand for, and their places (own).
use Rattle.std.specs.Prelude.{ℕ, suc, zero, List, [], ◌∷◌, ◌++◌, map}
use Rattle.xdr_tokens.specs.declared.token.Token.{Token}
use Rattle.xdr_tokens.specs.declared.token.Token.TheVariants as code
use Rattle.xdr_tokens.specs.Tokens.{Lexeme, lexeme}
use Rattle.xdr_dialect.specs.declared.scope.Scope.{Scope}
use Rattle.xdr_dialect.specs.declared.scope.Scope.TheVariants as scope
use Rattle.xdr_dialect.specs.Rewriting.{turn, rewritten}
use Rattle.xdr_dialect.specs.Library.{library}

-- a token, and how many bytes there are from it to the end of the text
pub record Placed : Type 0 where
  pub token : Lexeme
  pub left : ℕ

-- how many bytes there are from a token to the end
abbrev pub left_of : Token → ℕ
left_of (code.Word w left) = left
left_of (code.Name n left) = left
left_of (code.Number n left) = left
left_of (code.Sign m left) = left

-- a token with its place
abbrev pub placed : Token → Placed
placed t = record { token = lexeme t; left = left_of t }

-- tokens with their places
abbrev pub all_placed : List Token → List Placed
all_placed ts = map placed ts

-- tokens without their places
abbrev pub unplaced : List Placed → List Lexeme
unplaced ps = map (λ (p : Placed). p.token) ps

-- tokens that all stand there
abbrev pub standing_at : (left : ℕ) → List Lexeme → List Placed
standing_at left ts = map (λ t. record { token = t; left = left }) ts

-- What stands in place of a token stands where it stood.
unfoldable pub rewritten_places : Scope → (skip : ℕ) → List Placed → List Placed
rewritten_places s n [] = []
rewritten_places s zero (p ∷ ps) =
    standing_at p.left (turn s p.token (unplaced ps)).out
    ++ rewritten_places (turn s p.token (unplaced ps)).scope (turn s p.token (unplaced ps)).skip ps
rewritten_places s (suc n) (p ∷ ps) = rewritten_places s n ps

-- The tokens of the RFCs' language: those in place of the dialect's, behind the definitions of the library that they
-- lack.
abbrev pub meant : List Lexeme → List Lexeme
meant ts = library (rewritten ts) ++ rewritten ts

-- the same with their places; the library's definitions stand where the text begins
abbrev pub meant_places : (beginning : ℕ) → List Placed → List Placed
meant_places beginning ps =
    standing_at beginning (library (rewritten (unplaced ps))) ++ rewritten_places scope.Elsewhere 0 ps
