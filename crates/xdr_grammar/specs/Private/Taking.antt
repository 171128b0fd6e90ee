-- What is taken from the front of the tokens.
use Rattle.std.specs.Prelude.{ℕ, ℤ, Bool, true, false, List, [], ◌∷◌, length, Option, Some, None, ◌==◌}
use Rattle.std.specs.Prelude.{if◌then◌else◌}
use Rattle.xdr_tokens.specs.declared.token.Keyword.{Keyword}
use Rattle.xdr_tokens.specs.declared.token.Keyword.TheVariants as word
use Rattle.xdr_tokens.specs.declared.token.Mark.{Mark}
use Rattle.xdr_tokens.specs.declared.token.Mark.TheVariants as mark
use Rattle.xdr_tokens.specs.Options.{◌>>=◌}
use Rattle.xdr_tokens.specs.Tokens.{Lexeme, Word, Name, Number, Sign}
use Rattle.xdr_grammar.specs.Outline.{Late, Given, Earlier, Outline}

-- what follows, where something was taken
abbrev pub taken : {A B : Type 0} → Option A → (A → B) → B → B
taken (Some a) next other = next a
taken None next other = other

abbrev pub word_number : Keyword → ℕ
word_number word.Bool = 0
word_number word.Case = 1
word_number word.Const = 2
word_number word.Default = 3
word_number word.Double = 4
word_number word.Enum = 5
word_number word.Float = 6
word_number word.Hyper = 7
word_number word.Int = 8
word_number word.Long = 9
word_number word.Opaque = 10
word_number word.Program = 11
word_number word.Quadruple = 12
word_number word.String = 13
word_number word.Struct = 14
word_number word.Switch = 15
word_number word.Typedef = 16
word_number word.Union = 17
word_number word.Unsigned = 18
word_number word.Version = 19
word_number word.Void = 20

abbrev pub mark_number : Mark → ℕ
mark_number mark.OpenBrace = 0
mark_number mark.CloseBrace = 1
mark_number mark.OpenRound = 2
mark_number mark.CloseRound = 3
mark_number mark.OpenBracket = 4
mark_number mark.CloseBracket = 5
mark_number mark.Less = 6
mark_number mark.Greater = 7
mark_number mark.Equal = 8
mark_number mark.Comma = 9
mark_number mark.Semicolon = 10
mark_number mark.Colon = 11
mark_number mark.Star = 12

-- what follows the word or the mark, where it is there
unfoldable pub after_word : Keyword → List Lexeme → Option (List Lexeme)
after_word w [] = None
after_word w (Word v ∷ ts) = if word_number v == word_number w then Some ts else None
after_word w (Name n ∷ ts) = None
after_word w (Number n ∷ ts) = None
after_word w (Sign m ∷ ts) = None

unfoldable pub after_sign : Mark → List Lexeme → Option (List Lexeme)
after_sign m [] = None
after_sign m (Word v ∷ ts) = None
after_sign m (Name n ∷ ts) = None
after_sign m (Number n ∷ ts) = None
after_sign m (Sign k ∷ ts) = if mark_number k == mark_number m then Some ts else None

unfoldable pub name_at : List Lexeme → Option (List ℕ × List Lexeme)
name_at [] = None
name_at (Word v ∷ ts) = None
name_at (Name n ∷ ts) = Some (n, ts)
name_at (Number n ∷ ts) = None
name_at (Sign k ∷ ts) = None

unfoldable pub number_at : List Lexeme → Option (ℤ × List Lexeme)
number_at [] = None
number_at (Word v ∷ ts) = None
number_at (Name n ∷ ts) = None
number_at (Number n ∷ ts) = Some (n, ts)
number_at (Sign k ∷ ts) = None

unfoldable pub value_at : Outline → List Lexeme → Option (Late × List Lexeme)
value_at o [] = None
value_at o (Word v ∷ ts) = None
value_at o (Name n ∷ ts) = Some (Earlier n (length o.constants), ts)
value_at o (Number n ∷ ts) = Some (Given n, ts)
value_at o (Sign k ∷ ts) = None

-- after [
unfoldable pub size_at : Outline → List Lexeme → Option (Late × List Lexeme)
size_at o ts = do
  v ← value_at o ts
  rest ← after_sign mark.CloseBracket v.1
  Some (v.0, rest)

-- after <
unfoldable pub limit_at : Outline → List Lexeme → Option (Option Late × List Lexeme)
limit_at o ts = taken (after_sign mark.Greater ts) (λ rest. Some (None, rest))
    (value_at o ts >>= λ v. after_sign mark.Greater v.1 >>= λ rest. Some (Some v.0, rest))

-- one of two marks: whether it is the first
unfoldable pub either_sign : Mark → Mark → List Lexeme → Option (Bool × List Lexeme)
either_sign on end ts = taken (after_sign on ts) (λ rest. Some (true, rest))
    (after_sign end ts >>= λ rest. Some (false, rest))

-- = NUMBER ;
unfoldable pub numbered_at : List Lexeme → Option (ℤ × List Lexeme)
numbered_at ts = do
  after ← after_sign mark.Equal ts
  n ← number_at after
  rest ← after_sign mark.Semicolon n.1
  Some (n.0, rest)
