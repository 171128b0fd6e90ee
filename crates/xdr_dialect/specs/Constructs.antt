-- The constructs of rpcgen's dialect, an equation each: what stands in place of the tokens in front, whatever follows
-- (own, after rpcgen's parser). Tokens with which none of them begins stay what they are (Laws.antt).
use Rattle.std.specs.Prelude.{◌≡◌, ℕ, ℤ, Bool, true, false, ◌||◌, List, ◌∷◌, Some, pos, codes}
use Rattle.xdr_tokens.specs.declared.token.Keyword.TheVariants as word
use Rattle.xdr_tokens.specs.declared.token.Mark.TheVariants as mark
use Rattle.xdr_tokens.specs.Tokens.{Lexeme, Word, Name, Number, Sign}
use Rattle.xdr_dialect.specs.declared.scope.Scope.TheVariants as scope
use Rattle.xdr_dialect.specs.Tests.{is_word, is_named, first_is}
use Rattle.xdr_dialect.specs.Scopes.{next_number}
use Rattle.xdr_dialect.specs.Rewriting.{is_whole, is_tag, is_declared, ends_member, ends_argument}
use Rattle.xdr_dialect.specs.Rewriting.{rewritten, rewritten_from}

-- the tokens in place of members of an enumeration, where one without a number has this one
abbrev pub members : ℤ → List Lexeme → List Lexeme
members n ts = rewritten_from (scope.Members (Some n)) 0 ts

-- the tokens in place of arguments, behind the type of one
abbrev pub behind_type : List Lexeme → List Lexeme
behind_type ts = rewritten_from (scope.Argument true) 0 ts

abbrev pub char : Lexeme
char = Name (codes "char")

abbrev pub short : Lexeme
short = Name (codes "short")

abbrev pub unsigned : Lexeme
unsigned = Word word.Unsigned

abbrev pub int : Lexeme
int = Word word.Int

abbrev pub equal : Lexeme
equal = Sign mark.Equal

abbrev pub semicolon : Lexeme
semicolon = Sign mark.Semicolon

-- in front is one of what goes with unsigned: int, long, hyper, char or short
abbrev pub goes_with_unsigned : List Lexeme → Bool
goes_with_unsigned ts =
    first_is is_whole ts || first_is (is_named (codes "char")) ts || first_is (is_named (codes "short")) ts

-- The kinds: unsigned alone and those of C.
pub record Kinds : Type 0 where
  pub bare_unsigned : (ts : List Lexeme) → goes_with_unsigned ts ≡ false
      → rewritten (unsigned ∷ ts) ≡ unsigned ∷ int ∷ rewritten ts
  pub unsigned_char : (ts : List Lexeme) → rewritten (unsigned ∷ char ∷ ts) ≡ unsigned ∷ int ∷ rewritten ts
  pub unsigned_short_int : (ts : List Lexeme)
      → rewritten (unsigned ∷ short ∷ int ∷ ts) ≡ unsigned ∷ int ∷ rewritten ts
  pub unsigned_short : (ts : List Lexeme) → first_is (is_word word.Int) ts ≡ false
      → rewritten (unsigned ∷ short ∷ ts) ≡ unsigned ∷ int ∷ rewritten ts
  pub short_int : (ts : List Lexeme) → rewritten (short ∷ int ∷ ts) ≡ short ∷ rewritten ts
  pub long_int : (ts : List Lexeme) → rewritten (Word word.Long ∷ int ∷ ts) ≡ Word word.Long ∷ rewritten ts
  pub hyper_int : (ts : List Lexeme) → rewritten (Word word.Hyper ∷ int ∷ ts) ≡ Word word.Hyper ∷ rewritten ts
  pub float : (ts : List Lexeme) → is_declared ts ≡ true
      → rewritten (Word word.Float ∷ ts) ≡ Name (codes "float") ∷ rewritten ts
  pub double : (ts : List Lexeme) → is_declared ts ≡ true
      → rewritten (Word word.Double ∷ ts) ≡ Name (codes "double") ∷ rewritten ts

-- enum NAME and union NAME as kinds, and typedef struct NAME NAME; where a tag is struct, union or enum.
pub record Tags : Type 0 where
  pub enum_name : (n : List ℕ) (ts : List Lexeme) → is_declared ts ≡ true
      → rewritten (Word word.Enum ∷ Name n ∷ ts) ≡ rewritten (Name n ∷ ts)
  pub union_name : (n : List ℕ) (ts : List Lexeme) → is_declared ts ≡ true
      → rewritten (Word word.Union ∷ Name n ∷ ts) ≡ rewritten (Name n ∷ ts)
  pub renaming : (tag : Lexeme) (n : List ℕ) (ts : List Lexeme) → is_tag tag ≡ true
      → rewritten (Word word.Typedef ∷ tag ∷ Name n ∷ Name n ∷ semicolon ∷ ts) ≡ rewritten ts

-- #define NAME NUMBER, whose # is now =; const NAME = "..", whose quotation marks are; a member without a number; the
-- name of an argument; and no arguments at all.
pub record Others : Type 0 where
  pub definition : (n : List ℕ) (number : ℤ) (ts : List Lexeme)
      → rewritten (equal ∷ Name (codes "define") ∷ Name n ∷ Number number ∷ ts)
      ≡ Word word.Const ∷ Name n ∷ equal ∷ Number number ∷ semicolon ∷ rewritten ts
  pub quoted : (n : List ℕ) (ts : List Lexeme)
      → rewritten (Word word.Const ∷ Name n ∷ equal ∷ equal ∷ equal ∷ semicolon ∷ ts) ≡ rewritten ts
  pub first_member : (n : List ℕ) (ts : List Lexeme)
      → rewritten (Word word.Enum ∷ Name n ∷ Sign mark.OpenBrace ∷ ts)
      ≡ Word word.Enum ∷ Name n ∷ Sign mark.OpenBrace ∷ members (pos 0) ts
  pub member : (next : ℤ) (n : List ℕ) (ts : List Lexeme) → ends_member ts ≡ true
      → members next (Name n ∷ ts)
      ≡ Name n ∷ equal ∷ Number next ∷ rewritten_from (scope.Members (next_number next)) 0 ts
  pub name_of_argument : (n : List ℕ) (ts : List Lexeme) → ends_argument ts ≡ true
      → behind_type (Name n ∷ ts) ≡ behind_type ts
  pub no_arguments : (ts : List Lexeme)
      → rewritten (Sign mark.OpenRound ∷ Sign mark.CloseRound ∷ ts)
      ≡ Sign mark.OpenRound ∷ Word word.Void ∷ Sign mark.CloseRound ∷ rewritten ts
