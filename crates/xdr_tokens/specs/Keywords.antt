-- Which runs are keywords (RFC 4506 section 6.4, RFC 5531 section 12.3; long is a word of RFC 1833's text).
use Rattle.std.specs.Prelude.{ℕ, if◌then◌else◌, List, [], ◌∷◌, codes}
use Rattle.std.specs.Str.{bytes_eq}
use Rattle.xdr_tokens.specs.declared.token.Keyword.{Keyword}
use Rattle.xdr_tokens.specs.declared.token.Keyword.TheVariants as word
use Rattle.xdr_tokens.specs.Tokens.{Lexeme, Word, Name}

-- how a keyword is spelled
abbrev pub keyword : Keyword → List ℕ
keyword word.Bool = codes "bool"
keyword word.Case = codes "case"
keyword word.Const = codes "const"
keyword word.Default = codes "default"
keyword word.Double = codes "double"
keyword word.Enum = codes "enum"
keyword word.Float = codes "float"
keyword word.Hyper = codes "hyper"
keyword word.Int = codes "int"
keyword word.Long = codes "long"
keyword word.Opaque = codes "opaque"
keyword word.Program = codes "program"
keyword word.Quadruple = codes "quadruple"
keyword word.String = codes "string"
keyword word.Struct = codes "struct"
keyword word.Switch = codes "switch"
keyword word.Typedef = codes "typedef"
keyword word.Union = codes "union"
keyword word.Unsigned = codes "unsigned"
keyword word.Version = codes "version"
keyword word.Void = codes "void"

-- all keywords
abbrev pub keywords : List Keyword
keywords = word.Bool ∷ word.Case ∷ word.Const ∷ word.Default ∷ word.Double ∷ word.Enum ∷ word.Float ∷ word.Hyper ∷
    word.Int ∷ word.Long ∷ word.Opaque ∷ word.Program ∷ word.Quadruple ∷ word.String ∷ word.Struct ∷ word.Switch ∷
    word.Typedef ∷ word.Union ∷ word.Unsigned ∷ word.Version ∷ word.Void ∷ []

-- a keyword of the list, or a name
unfoldable pub word_among : List Keyword → List ℕ → Lexeme
word_among [] run = Name run
word_among (w ∷ ws) run = if bytes_eq run (keyword w) then Word w else word_among ws run

-- a keyword, or a name
unfoldable pub word_or_name : List ℕ → Lexeme
word_or_name run = word_among keywords run
