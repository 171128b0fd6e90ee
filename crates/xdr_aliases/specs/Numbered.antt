-- What a name stands for, said of a whole text (own, after rpcgen): numbers and names that the text gives to names, and
-- which tokens are names that stand for a number.
use Rattle.std.specs.Prelude.{◌≡◌, ◌⊎◌, ℕ, suc, ◌<◌, ℤ, Bool, false, ◌||◌, List, [], ◌∷◌, ◌++◌, length}
use Rattle.std.specs.Prelude.{Some, slice_get}
use Rattle.std.specs.List.{list_any}
use Rattle.xdr_tokens.specs.declared.token.Mark.TheVariants as mark
use Rattle.xdr_tokens.specs.Tokens.{Lexeme, Name, Number, Sign}
use Rattle.xdr_dialect.specs.Tests.{is_sign, is_name, first_is}
use Rattle.xdr_aliases.specs.Aliases.{resolved}

abbrev pub equal : Lexeme
equal = Sign mark.Equal

abbrev pub semicolon : Lexeme
semicolon = Sign mark.Semicolon

-- ( or )
abbrev pub is_round : Lexeme → Bool
is_round t = is_sign mark.OpenRound t || is_sign mark.CloseRound t

-- nothing, or ( .. ) in which no other ( or ) stands
abbrev pub AreArguments : List Lexeme → Type 0
AreArguments args =
    (args ≡ []) ⊎ ((inside : List Lexeme) × (list_any is_round inside ≡ false)
    × (args ≡ Sign mark.OpenRound ∷ inside ++ Sign mark.CloseRound ∷ []))

-- The text gives the name this number: somewhere it has NAME = NUMBER, or NAME(..) = NUMBER.
pub record Gives (ts : List Lexeme) (n : List ℕ) (v : ℤ) : Type 0 where
  pub before : List Lexeme
  pub arguments : List Lexeme
  pub behind : List Lexeme
  pub are_arguments : AreArguments arguments
  pub split : ts ≡ before ++ Name n ∷ (arguments ++ equal ∷ Number v ∷ behind)

-- The text gives the name, which is its token at this place from 0, a name: NAME = NAME, or NAME(..) = NAME.
pub record GivesName (ts : List Lexeme) (place : ℕ) (n m : List ℕ) : Type 0 where
  pub before : List Lexeme
  pub arguments : List Lexeme
  pub behind : List Lexeme
  pub are_arguments : AreArguments arguments
  pub split : ts ≡ before ++ Name n ∷ (arguments ++ equal ∷ Name m ∷ behind)
  pub stands : length before ≡ place

-- At a place of the text the name stands for a number: the text gives it that number, anywhere, or before that place it
-- gives it a name that stands for the number there.
pub data StandsFor (ts : List Lexeme) : (place : ℕ) → List ℕ → ℤ → Type 0 where
  by_number : (place : ℕ) (n : List ℕ) (v : ℤ) → Gives ts n v → StandsFor ts place n v
  by_name : (place earlier : ℕ) (n m : List ℕ) (v : ℤ) → GivesName ts earlier n m → earlier < place
      → StandsFor ts earlier m v → StandsFor ts place n v

-- The text gives no name two numbers.
abbrev pub NoneHasTwo : List Lexeme → Type 0
NoneHasTwo ts = (n : List ℕ) (u v : ℤ) → Gives ts n u → Gives ts n v → u ≡ v

-- No name stands for two numbers, at the end of the text and so anywhere.
abbrev pub NoneStandsForTwo : List Lexeme → Type 0
NoneStandsForTwo ts =
    (n : List ℕ) (u v : ℤ) → StandsFor ts (length ts) n u → StandsFor ts (length ts) n v → u ≡ v

-- the tokens with this name between = and ;
abbrev pub with_name : (before : List Lexeme) (n : List ℕ) (behind : List Lexeme) → List Lexeme
with_name before n behind = before ++ equal ∷ Name n ∷ semicolon ∷ behind

-- what such a name becomes
abbrev pub Becomes : (before : List Lexeme) (n : List ℕ) (behind : List Lexeme) → Lexeme → Type 0
Becomes before n behind t = slice_get (resolved (with_name before n behind)) (suc (length before)) ≡ Some t

-- A name between = and ; is the number that it stands for there, or it stays. The number that the text gives it comes
-- first, where no name is given two. Names are followed where no name stands for two.
pub record NamesAre : Type 0 where
  pub numbered : (before : List Lexeme) (n : List ℕ) (v : ℤ) (behind : List Lexeme)
      → NoneHasTwo (with_name before n behind) → Gives (with_name before n behind) n v
      → Becomes before n behind (Number v)
  pub named : (before : List Lexeme) (n : List ℕ) (v : ℤ) (behind : List Lexeme)
      → NoneStandsForTwo (with_name before n behind)
      → StandsFor (with_name before n behind) (suc (length before)) n v → Becomes before n behind (Number v)
  pub unnumbered : (before : List Lexeme) (n : List ℕ) (behind : List Lexeme)
      → ((v : ℤ) → StandsFor (with_name before n behind) (suc (length before)) n v → ⊥)
      → Becomes before n behind (Name n)
  pub two_numbers : (ts : List Lexeme) → (NoneHasTwo ts → ⊥) → resolved ts ≡ ts
  pub two_by_names : (before : List Lexeme) (n : List ℕ) (behind : List Lexeme)
      → (NoneStandsForTwo (with_name before n behind) → ⊥)
      → ((v : ℤ) → Gives (with_name before n behind) n v → ⊥) → Becomes before n behind (Name n)

-- Every other token stays: one that is no name, one before no ;, one behind no =, and the first. There are as many.
pub record OthersStay : Type 0 where
  pub no_name : (before : List Lexeme) (t : Lexeme) (behind : List Lexeme) → is_name t ≡ false
      → slice_get (resolved (before ++ t ∷ behind)) (length before) ≡ Some t
  pub no_end : (before : List Lexeme) (t : Lexeme) (behind : List Lexeme)
      → first_is (is_sign mark.Semicolon) behind ≡ false
      → slice_get (resolved (before ++ t ∷ behind)) (length before) ≡ Some t
  pub no_equal : (before : List Lexeme) (u t : Lexeme) (behind : List Lexeme) → is_sign mark.Equal u ≡ false
      → slice_get (resolved (before ++ u ∷ t ∷ behind)) (suc (length before)) ≡ Some t
  pub first : (t : Lexeme) (behind : List Lexeme) → slice_get (resolved (t ∷ behind)) 0 ≡ Some t
  pub as_many : (ts : List Lexeme) → length (resolved ts) ≡ length ts
