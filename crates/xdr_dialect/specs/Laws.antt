-- What a text of the RFCs' language is in rpcgen's dialect (own).
use Rattle.std.specs.Prelude.{◌≡◌, ℕ, Bool, true, false, not, ◌&&◌, List, [], ◌∷◌, Some, Ok, codes}
use Rattle.std.specs.Prelude.{if◌then◌else◌}
use Rattle.std.specs.Str.{bytes_eq}
use Rattle.xdr_tokens.specs.declared.token.Keyword.{Keyword}
use Rattle.xdr_tokens.specs.declared.token.Keyword.TheVariants as word
use Rattle.xdr_tokens.specs.declared.token.Mark.{Mark}
use Rattle.xdr_tokens.specs.declared.token.Mark.TheVariants as mark
use Rattle.xdr_tokens.specs.Tokens.{Lexeme, Word, Name, Number, Sign}
use Rattle.xdr_tokens.specs.Text.{Tokens}
use Rattle.xdr_dialect.specs.declared.scope.Scope.{Scope}
use Rattle.xdr_dialect.specs.declared.scope.Scope.TheVariants as scope
use Rattle.xdr_dialect.specs.Plain.{plain}
use Rattle.xdr_dialect.specs.Tests.{is_word, is_sign, is_name, first_is, rest}
use Rattle.xdr_dialect.specs.Scopes.{scope_after}
use Rattle.xdr_dialect.specs.Rewriting.{is_quoted, is_renaming, is_whole, is_kind, ends_member, ends_argument}
use Rattle.xdr_dialect.specs.Rewriting.{is_define, rewritten}

-- A text that is cut into tokens of the language stays what it is, whatever names are defined: in comments alone it may
-- have lines of % and #.
abbrev pub TextsStay : Type 0
TextsStay = (names : List (List ℕ)) (text : List ℕ) (ts : List Lexeme) → Tokens text ts → plain names text ≡ Ok text

-- a keyword with which a construct of the dialect begins
abbrev pub word_begins : Scope → Keyword → List Lexeme → Bool
word_begins s word.Const ts = is_quoted ts
word_begins s word.Typedef ts = is_renaming ts
word_begins s word.Unsigned ts = not (first_is is_whole ts)
word_begins s word.Long ts = first_is (is_word word.Int) ts
word_begins s word.Hyper ts = first_is (is_word word.Int) ts
word_begins s word.Enum ts = first_is is_name ts && is_kind s (rest ts)
word_begins s word.Union ts = first_is is_name ts && is_kind s (rest ts)
word_begins s word.Float ts = is_kind s ts
word_begins s word.Double ts = is_kind s ts
word_begins s w ts = false

-- a name with which one begins: a member without a number, what an argument is called, short before int
abbrev pub name_begins : Scope → List ℕ → List Lexeme → Bool
name_begins (scope.Members (Some number)) n ts =
    if ends_member ts then true else bytes_eq n (codes "short") && first_is (is_word word.Int) ts
name_begins (scope.Argument named) n ts =
    if named && ends_argument ts then true else bytes_eq n (codes "short") && first_is (is_word word.Int) ts
name_begins s n ts = bytes_eq n (codes "short") && first_is (is_word word.Int) ts

-- a mark with which one begins
abbrev pub sign_begins : Mark → List Lexeme → Bool
sign_begins mark.Equal ts = is_define ts
sign_begins mark.OpenRound ts = first_is (is_sign mark.CloseRound) ts
sign_begins m ts = false

-- a number in a line of #define
abbrev pub number_begins : Scope → Bool
number_begins scope.Constant = true
number_begins s = false

-- a token with which a construct of the dialect begins, before ts
abbrev pub begins : Scope → Lexeme → List Lexeme → Bool
begins s (Word w) ts = word_begins s w ts
begins s (Name n) ts = name_begins s n ts
begins s (Number n) ts = number_begins s
begins s (Sign m) ts = sign_begins m ts

-- none of the tokens begins a construct of the dialect
unfoldable pub HasNone : Scope → List Lexeme → Type 0
HasNone s [] = Unit {0}
HasNone s (t ∷ ts) = (begins s t ts ≡ false) × HasNone (scope_after s t) ts

-- Tokens without a construct of the dialect stay what they are.
abbrev pub TokensStay : Type 0
TokensStay = (ts : List Lexeme) → HasNone scope.Elsewhere ts → rewritten ts ≡ ts
