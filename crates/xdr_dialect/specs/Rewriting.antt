-- The tokens of rpcgen's dialect as tokens of the RFCs' language: what stands in place of a token, by the tokens behind
-- it, one line for each construct (own, after rpcgen's parser).
use Rattle.std.specs.Prelude.{ℕ, suc, zero, ℤ, Bool, true, ◌&&◌, ◌||◌, not, List, [], ◌∷◌, ◌++◌, codes}
use Rattle.std.specs.Prelude.{Some, None, if◌then◌else◌}
use Rattle.std.specs.Str.{bytes_eq}
use Rattle.xdr_tokens.specs.declared.token.Keyword.{Keyword}
use Rattle.xdr_tokens.specs.declared.token.Keyword.TheVariants as word
use Rattle.xdr_tokens.specs.declared.token.Mark.{Mark}
use Rattle.xdr_tokens.specs.declared.token.Mark.TheVariants as mark
use Rattle.xdr_tokens.specs.Tokens.{Lexeme, Word, Name, Number, Sign}
use Rattle.xdr_dialect.specs.declared.scope.Scope.{Scope}
use Rattle.xdr_dialect.specs.declared.scope.Scope.TheVariants as scope
use Rattle.xdr_dialect.specs.Tests.{is_word, is_sign, is_name, is_named, is_number, name_in, first_is, rest}
use Rattle.xdr_dialect.specs.Scopes.{scope_after, next_number}

-- what stands in place of a token, where the next one stands, and how many behind it go with it
pub record Turned : Type 0 where
  pub out : List Lexeme
  pub scope : Scope
  pub skip : ℕ

-- the token itself, and nothing of so many behind it
abbrev pub same_but : Scope → Lexeme → (skip : ℕ) → Turned
same_but s t skip = record { out = t ∷ []; scope = scope_after s t; skip = skip }

-- the token itself
abbrev pub same : Scope → Lexeme → Turned
same s t = same_but s t 0

-- nothing, and nothing of so many tokens behind it
abbrev pub nothing : Scope → ℕ → Turned
nothing s n = record { out = []; scope = s; skip = n }

-- one int in front goes with what precedes it
abbrev pub an_int : List Lexeme → ℕ
an_int ts = if first_is (is_word word.Int) ts then 1 else 0

-- three = and ; in front, which a quoted text leaves
abbrev pub three_equal : List Lexeme → Bool
three_equal ts =
    first_is (is_sign mark.Equal) ts && first_is (is_sign mark.Equal) (rest ts)
    && first_is (is_sign mark.Equal) (rest (rest ts)) && first_is (is_sign mark.Semicolon) (rest (rest (rest ts)))

-- NAME = "..";
abbrev pub is_quoted : List Lexeme → Bool
is_quoted ts = first_is is_name ts && three_equal (rest ts)

-- struct, union or enum
abbrev pub is_tag : Lexeme → Bool
is_tag t = is_word word.Struct t || is_word word.Union t || is_word word.Enum t

-- struct NAME NAME; which makes NAME a type in C, and union and enum
abbrev pub is_renaming : List Lexeme → Bool
is_renaming ts =
    first_is is_tag ts && first_is is_name (rest ts) && first_is (is_named (name_in (rest ts))) (rest (rest ts))
    && first_is (is_sign mark.Semicolon) (rest (rest (rest ts)))

-- int, long or hyper
abbrev pub is_whole : Lexeme → Bool
is_whole t = is_word word.Int t || is_word word.Long t || is_word word.Hyper t

-- unsigned alone is unsigned int, and so are unsigned char and unsigned short
abbrev pub unsigned_turn : Scope → List Lexeme → Turned
unsigned_turn s ts =
    if first_is is_whole ts then same s (Word word.Unsigned) else record {
      out = Word word.Unsigned ∷ Word word.Int ∷ [];
      scope = scope_after s (Word word.Unsigned);
      skip =
          if first_is (is_named (codes "char")) ts then 1 else
          (if first_is (is_named (codes "short")) ts then suc (an_int (rest ts)) else 0);
    }

-- long int, hyper int and short int are long, hyper and short
abbrev pub sized_turn : Scope → Lexeme → List Lexeme → Turned
sized_turn s t ts = same_but s t (an_int ts)

-- a name or * in front, as behind a kind
abbrev pub is_declared : List Lexeme → Bool
is_declared ts = first_is is_name ts || first_is (is_sign mark.Star) ts

-- a kind is in front of ts: behind it a name or * follows, unless it is that of an argument
abbrev pub is_kind : Scope → List Lexeme → Bool
is_kind (scope.Argument named) ts = not named
is_kind s ts = is_declared ts

-- enum NAME and union NAME, where they are kinds, are NAME
abbrev pub tagged_turn : Scope → Lexeme → List Lexeme → Turned
tagged_turn s t ts = if first_is is_name ts && is_kind s (rest ts) then nothing s 0 else same s t

-- float and double, where they are kinds, are names of the library
abbrev pub floating_turn : Scope → Keyword → (name : List ℕ) → List Lexeme → Turned
floating_turn s w name ts = if is_kind s ts then same s (Name name) else same s (Word w)

-- a keyword: const with quotes is nothing, nor is typedef struct NAME NAME;
abbrev pub word_turn : Scope → Keyword → List Lexeme → Turned
word_turn s word.Const ts = if is_quoted ts then nothing s 5 else same s (Word word.Const)
word_turn s word.Typedef ts = if is_renaming ts then nothing s 4 else same s (Word word.Typedef)
word_turn s word.Unsigned ts = unsigned_turn s ts
word_turn s word.Long ts = sized_turn s (Word word.Long) ts
word_turn s word.Hyper ts = sized_turn s (Word word.Hyper) ts
word_turn s word.Enum ts = tagged_turn s (Word word.Enum) ts
word_turn s word.Union ts = tagged_turn s (Word word.Union) ts
word_turn s word.Float ts = floating_turn s word.Float (codes "float") ts
word_turn s word.Double ts = floating_turn s word.Double (codes "double") ts
word_turn s w ts = same s (Word w)

-- , or } in front
abbrev pub ends_member : List Lexeme → Bool
ends_member ts = first_is (is_sign mark.Comma) ts || first_is (is_sign mark.CloseBrace) ts

-- a member of an enumeration without a number has that of the one before it and 1, the first one 0
abbrev pub member_turn : List ℕ → ℤ → Turned
member_turn n number = record {
  out = Name n ∷ Sign mark.Equal ∷ Number number ∷ [];
  scope = scope.Members (next_number number);
  skip = 0;
}

-- a name that is no member without a number, and not behind the type of an argument
abbrev pub other_name : Scope → List ℕ → List Lexeme → Turned
other_name s n ts = if bytes_eq n (codes "short") then sized_turn s (Name n) ts else same s (Name n)

-- , or ) in front
abbrev pub ends_argument : List Lexeme → Bool
ends_argument ts = first_is (is_sign mark.Comma) ts || first_is (is_sign mark.CloseRound) ts

-- a name: what an argument is called is nothing
abbrev pub name_turn : Scope → List ℕ → List Lexeme → Turned
name_turn (scope.Members (Some number)) n ts =
    if ends_member ts then member_turn n number else other_name (scope.Members (Some number)) n ts
name_turn (scope.Members None) n ts = other_name (scope.Members None) n ts
name_turn (scope.Argument named) n ts =
    if named && ends_argument ts then nothing (scope.Argument true) 0 else other_name (scope.Argument named) n ts
name_turn scope.Elsewhere n ts = other_name scope.Elsewhere n ts
name_turn scope.Head n ts = other_name scope.Head n ts
name_turn scope.Value n ts = other_name scope.Value n ts
name_turn scope.Switch n ts = other_name scope.Switch n ts
name_turn scope.Constant n ts = other_name scope.Constant n ts

-- = stands for the # of #define NAME NUMBER, which is a constant
abbrev pub define_turn : Turned
define_turn = record { out = Word word.Const ∷ []; scope = scope.Constant; skip = 1 }

-- define, a name and a number in front
abbrev pub is_define : List Lexeme → Bool
is_define ts =
    first_is (is_named (codes "define")) ts && first_is is_name (rest ts) && first_is is_number (rest (rest ts))

-- ( before ): no arguments are void
abbrev pub round_turn : Scope → List Lexeme → Turned
round_turn s ts =
    if first_is (is_sign mark.CloseRound) ts then record {
      out = Sign mark.OpenRound ∷ Word word.Void ∷ [];
      scope = scope_after s (Sign mark.OpenRound);
      skip = 0;
    } else same s (Sign mark.OpenRound)

-- a mark: no arguments at all are void
abbrev pub sign_turn : Scope → Mark → List Lexeme → Turned
sign_turn s mark.Equal ts = if is_define ts then define_turn else same s (Sign mark.Equal)
sign_turn s mark.OpenRound ts = round_turn s ts
sign_turn s m ts = same s (Sign m)

-- a number: that of #define ends its constant
abbrev pub number_turn : Scope → ℤ → Turned
number_turn scope.Constant n = record {
  out = Sign mark.Equal ∷ Number n ∷ Sign mark.Semicolon ∷ [];
  scope = scope.Elsewhere;
  skip = 0;
}
number_turn s n = same s (Number n)

-- what stands in place of a token, before ts
abbrev pub turn : Scope → Lexeme → List Lexeme → Turned
turn s (Word w) ts = word_turn s w ts
turn s (Name n) ts = name_turn s n ts
turn s (Number n) ts = number_turn s n
turn s (Sign m) ts = sign_turn s m ts

-- the tokens in place of others, of which so many go with what precedes them
unfoldable pub rewritten_from : Scope → (skip : ℕ) → List Lexeme → List Lexeme
rewritten_from s n [] = []
rewritten_from s zero (t ∷ ts) =
    (turn s t ts).out ++ rewritten_from (turn s t ts).scope (turn s t ts).skip ts
rewritten_from s (suc n) (t ∷ ts) = rewritten_from s n ts

-- the tokens of the RFCs' language in place of those of the dialect
abbrev pub rewritten : List Lexeme → List Lexeme
rewritten ts = rewritten_from scope.Elsewhere 0 ts
