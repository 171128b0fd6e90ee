-- What a token is.
use Rattle.std.specs.Prelude.{ℕ, Bool, true, false, ◌==◌, List, [], ◌∷◌}
use Rattle.std.specs.Str.{bytes_eq}
use Rattle.xdr_tokens.specs.declared.token.Keyword.{Keyword}
use Rattle.xdr_tokens.specs.declared.token.Keyword.TheVariants as word
use Rattle.xdr_tokens.specs.declared.token.Mark.{Mark}
use Rattle.xdr_tokens.specs.declared.token.Mark.TheVariants as mark
use Rattle.xdr_tokens.specs.Tokens.{Lexeme, Word, Name, Number, Sign}

-- the place of a keyword among all
abbrev pub word_number : Keyword → ℕ
word_number word.Bool = 0
word_number word.Case = 1
word_number word.Const = 2
word_number word.Default = 3
word_number word.Double = 4
word_number word.Enum = 5
word_number word.Float = 6
word_number word.Hyper = 7
word_number word.Int = 8
word_number word.Long = 9
word_number word.Opaque = 10
word_number word.Program = 11
word_number word.Quadruple = 12
word_number word.String = 13
word_number word.Struct = 14
word_number word.Switch = 15
word_number word.Typedef = 16
word_number word.Union = 17
word_number word.Unsigned = 18
word_number word.Version = 19
word_number word.Void = 20

-- the place of a mark among all
abbrev pub mark_number : Mark → ℕ
mark_number mark.OpenBrace = 0
mark_number mark.CloseBrace = 1
mark_number mark.OpenRound = 2
mark_number mark.CloseRound = 3
mark_number mark.OpenBracket = 4
mark_number mark.CloseBracket = 5
mark_number mark.Less = 6
mark_number mark.Greater = 7
mark_number mark.Equal = 8
mark_number mark.Comma = 9
mark_number mark.Semicolon = 10
mark_number mark.Colon = 11
mark_number mark.Star = 12

-- this keyword
abbrev pub is_word : Keyword → Lexeme → Bool
is_word w (Word v) = word_number v == word_number w
is_word w (Name n) = false
is_word w (Number n) = false
is_word w (Sign m) = false

-- this mark
abbrev pub is_sign : Mark → Lexeme → Bool
is_sign m (Word v) = false
is_sign m (Name n) = false
is_sign m (Number n) = false
is_sign m (Sign k) = mark_number k == mark_number m

-- a name
abbrev pub is_name : Lexeme → Bool
is_name (Word v) = false
is_name (Name n) = true
is_name (Number n) = false
is_name (Sign m) = false

-- this name
abbrev pub is_named : List ℕ → Lexeme → Bool
is_named name (Word v) = false
is_named name (Name n) = bytes_eq n name
is_named name (Number n) = false
is_named name (Sign m) = false

-- the name in front, where there is one
abbrev pub name_in : List Lexeme → List ℕ
name_in [] = []
name_in (Word v ∷ ts) = []
name_in (Name n ∷ ts) = n
name_in (Number n ∷ ts) = []
name_in (Sign m ∷ ts) = []

-- a number
abbrev pub is_number : Lexeme → Bool
is_number (Word v) = false
is_number (Name n) = false
is_number (Number n) = true
is_number (Sign m) = false

-- such a token is in front
abbrev pub first_is : (Lexeme → Bool) → List Lexeme → Bool
first_is p [] = false
first_is p (t ∷ ts) = p t

-- what follows the token in front
abbrev pub rest : List Lexeme → List Lexeme
rest [] = []
rest (t ∷ ts) = ts
