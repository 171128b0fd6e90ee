-- Which tokens stay (own).
use Rattle.std.specs.Prelude.{◌≡◌, Bool, false, ◌&&◌, List, [], ◌∷◌}
use Rattle.xdr_tokens.specs.declared.token.Mark.TheVariants as mark
use Rattle.xdr_tokens.specs.Tokens.{Lexeme}
use Rattle.xdr_dialect.specs.Tests.{is_sign, is_name, first_is}
use Rattle.xdr_aliases.specs.Aliases.{resolved}

-- no name stands between = and ;
unfoldable pub HasNoAlias : (value : Bool) → List Lexeme → Type 0
HasNoAlias value [] = Unit {0}
HasNoAlias value (t ∷ ts) =
    ((value && is_name t && first_is (is_sign mark.Semicolon) ts) ≡ false) × HasNoAlias (is_sign mark.Equal t) ts

-- Tokens without such a name stay what they are.
abbrev pub AliasesStay : Type 0
AliasesStay = (ts : List Lexeme) → HasNoAlias false ts → resolved ts ≡ ts
