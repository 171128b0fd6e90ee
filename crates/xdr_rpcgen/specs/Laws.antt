-- What a text of the RFCs' language means in rpcgen's dialect (own).
use Rattle.std.specs.Prelude.{◌≡◌, ℕ, false, List, []}
use Rattle.xdr_tokens.specs.Tokens.{Lexeme}
use Rattle.xdr_tokens.specs.Text.{Tokens}
use Rattle.xdr_lang.specs.Declarations.{Declared}
use Rattle.xdr_lang.specs.Means.{Means}
use Rattle.xdr_dialect.specs.declared.scope.Scope.TheVariants as scope
use Rattle.xdr_dialect.specs.Laws.{HasNone}
use Rattle.xdr_dialect.specs.Library.{library}
use Rattle.xdr_aliases.specs.Laws.{HasNoAlias}
use Rattle.xdr_rpcgen.specs.DialectMeans.{DialectMeans}

-- No token of the text begins a construct of the dialect, it lacks no name of rpcgen's library, and no name stands
-- where the language has a number alone.
abbrev pub HasNoConstruct : List ℕ → Type 0
HasNoConstruct text = (ts : List Lexeme) → Tokens text ts → HasNone scope.Elsewhere ts × (library ts ≡ [])
    × HasNoAlias false ts

-- A text without a construct of the dialect means there what it means, and nothing else where it is cut into tokens of
-- the language, whatever names are defined.
abbrev pub KeepsMeanings : Type 0
KeepsMeanings = (names : List (List ℕ)) (text : List ℕ) (d : Declared) → HasNoConstruct text
    → (Means text d → DialectMeans names text d)
    × ((ts : List Lexeme) → Tokens text ts → DialectMeans names text d → Means text d)
