-- The tokens of a text (RFC 4506 section 6.2): it is cut into pieces, each as long as it can be, and comments and white
-- space are dropped.
use Rattle.std.specs.Prelude.{◌≡◌, ◌⊎◌, ℕ, ℤ, true, false, ◌&&◌, ◌==◌, List, [], ◌∷◌, ◌++◌, Option, Some, None, codes}
use Rattle.xdr_tokens.specs.declared.token.Mark.{Mark}
use Rattle.xdr_tokens.specs.declared.token.Mark.TheVariants as mark
use Rattle.xdr_tokens.specs.Tokens.{Lexeme, Number, Sign}
use Rattle.xdr_tokens.specs.Keywords.{word_or_name}
use Rattle.xdr_tokens.specs.Bytes.{is_space, is_letter, is_digit, is_word, run_length, number_of}

-- white space, a comment, a keyword or name, a constant, a mark
pub data Piece : Type 0 where
  Blank : (byte : ℕ) → Piece
  Comment : (inside : List ℕ) → Piece
  Run : (run : List ℕ) → Piece
  Constant : (run : List ℕ) → (value : ℤ) → Piece
  Single : Mark → Piece

-- how a mark is spelled
abbrev pub mark_text : Mark → List ℕ
mark_text mark.OpenBrace = codes "{"
mark_text mark.CloseBrace = codes "}"
mark_text mark.OpenRound = codes "("
mark_text mark.CloseRound = codes ")"
mark_text mark.OpenBracket = codes "["
mark_text mark.CloseBracket = codes "]"
mark_text mark.Less = codes "<"
mark_text mark.Greater = codes ">"
mark_text mark.Equal = codes "="
mark_text mark.Comma = codes ","
mark_text mark.Semicolon = codes ";"
mark_text mark.Colon = codes ":"
mark_text mark.Star = codes "*"

-- the bytes of a piece, and those that follow it
abbrev pub spelling : Piece → List ℕ → List ℕ
spelling (Blank b) bs = b ∷ bs
spelling (Comment inside) bs = codes "/*" ++ (inside ++ (codes "*/" ++ bs))
spelling (Run run) bs = run ++ bs
spelling (Constant run v) bs = run ++ bs
spelling (Single m) bs = mark_text m ++ bs

-- letters, digits and _ alone
abbrev pub IsRun : List ℕ → Type 0
IsRun [] = Unit {0}
IsRun (b ∷ bs) = (is_word b ≡ true) × IsRun bs

-- no */ stands inside
abbrev pub HasNoEnd : List ℕ → Type 0
HasNoEnd [] = Unit {0}
HasNoEnd (a ∷ []) = Unit {0}
HasNoEnd (a ∷ b ∷ bs) = (((a == 42) && (b == 47)) ≡ false) × HasNoEnd (b ∷ bs)

-- A run ends here: tokens are as long as they can be.
abbrev pub EndsRun : List ℕ → Type 0
EndsRun bs = run_length bs ≡ 0

-- A letter is in front.
abbrev pub BeginsWord : List ℕ → Type 0
BeginsWord [] = ⊥
BeginsWord (b ∷ bs) = is_letter b ≡ true

-- A digit is in front.
abbrev pub BeginsDigit : List ℕ → Type 0
BeginsDigit [] = ⊥
BeginsDigit (b ∷ bs) = is_digit b ≡ true

-- a run that begins with a digit, or - and such a run
abbrev pub IsNumeral : List ℕ → Type 0
IsNumeral [] = ⊥
IsNumeral (b ∷ bs) = (BeginsDigit (b ∷ bs) × IsRun (b ∷ bs)) ⊎ ((b ≡ 45) × BeginsDigit bs × IsRun bs)

-- The piece may stand before these bytes.
abbrev pub MayPrecede : Piece → List ℕ → Type 0
MayPrecede (Blank b) bs = is_space b ≡ true
MayPrecede (Comment inside) bs = HasNoEnd inside
MayPrecede (Run run) bs = BeginsWord run × IsRun run × EndsRun bs
MayPrecede (Constant run v) bs = IsNumeral run × (number_of run ≡ Some v) × EndsRun bs
MayPrecede (Single m) bs = Unit {0}

-- the token of a piece; white space and comments are none
abbrev pub token_of : Piece → Option Lexeme
token_of (Blank b) = None
token_of (Comment inside) = None
token_of (Run run) = Some (word_or_name run)
token_of (Constant run v) = Some (Number v)
token_of (Single m) = Some (Sign m)

-- tokens after one that is there or not
abbrev pub with_token : Option Lexeme → List Lexeme → List Lexeme
with_token None ts = ts
with_token (Some t) ts = t ∷ ts

-- The bytes are cut into these tokens.
abbrev pub Cuts : List Piece → List ℕ → List Lexeme → Type 0
Cuts [] bs ts = (bs ≡ []) × (ts ≡ [])
Cuts (p ∷ ps) bs ts = (rest : List ℕ) × (others : List Lexeme) × (bs ≡ spelling p rest) × MayPrecede p rest
    × (ts ≡ with_token (token_of p) others) × Cuts ps rest others

-- The text is cut into these tokens, in one way or another.
abbrev pub Tokens : List ℕ → List Lexeme → Type 0
Tokens text ts = (ps : List Piece) × Cuts ps text ts

-- all marks
abbrev pub marks : List Mark
marks = mark.OpenBrace ∷ mark.CloseBrace ∷ mark.OpenRound ∷ mark.CloseRound ∷ mark.OpenBracket ∷ mark.CloseBracket ∷
    mark.Less ∷ mark.Greater ∷ mark.Equal ∷ mark.Comma ∷ mark.Semicolon ∷ mark.Colon ∷ mark.Star ∷ []
