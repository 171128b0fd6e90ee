-- Tokens without a construct of the dialect stay what they are.
use Rattle.std.proofs.Common.{◌≡◌, ℕ, ℤ, Bool, true, false, List, [], ◌∷◌, refl, ap, Some, None, inl, inr}
use Rattle.std.specs.Prelude.{◌&&◌, not, codes}
use Rattle.std.specs.Str.{bytes_eq}
use Rattle.std.proofs.lemmas.Bool.{cases_Bool as test}
use Rattle.xdr_tokens.specs.declared.token.Keyword.{Keyword}
use Rattle.xdr_tokens.specs.declared.token.Keyword.TheVariants as word
use Rattle.xdr_tokens.specs.declared.token.Mark.{Mark}
use Rattle.xdr_tokens.specs.declared.token.Mark.TheVariants as mark
use Rattle.xdr_tokens.specs.Tokens.{Lexeme, Word, Name, Number, Sign}
use Rattle.xdr_dialect.specs.declared.scope.Scope.{Scope}
use Rattle.xdr_dialect.specs.declared.scope.Scope.TheVariants as scope
use Rattle.xdr_dialect.specs.Tests.{is_word, first_is}
use Rattle.xdr_dialect.specs.Scopes.{scope_after}
use Rattle.xdr_dialect.specs.Rewriting.{is_whole, ends_member, ends_argument, turn, same}
use Rattle.xdr_dialect.specs.Rewriting.{name_turn, other_name, word_turn, sign_turn, number_turn}
use Rattle.xdr_dialect.specs.Rewriting.{rewritten_from}
use Rattle.xdr_dialect.specs.Laws.{begins, word_begins, name_begins, sign_begins, number_begins, HasNone, TokensStay}

yes : (b : Bool) → not b ≡ false → b ≡ true
yes true h = refl
yes false h = absurd cc

word_same : (s : Scope) (w : Keyword) (ts : List Lexeme) → word_begins s w ts ≡ false
    → word_turn s w ts ≡ same s (Word w)
word_same s word.Const ts h = rw h refl
word_same s word.Unsigned ts h = rw (yes (first_is is_whole ts) h) refl
word_same s word.Long ts h = rw h refl
word_same s word.Hyper ts h = rw h refl
word_same s word.Enum ts h = rw h refl
word_same s word.Union ts h = rw h refl
word_same s word.Float ts h = rw h refl
word_same s word.Double ts h = rw h refl
word_same s word.Bool ts h = refl
word_same s word.Case ts h = refl
word_same s word.Default ts h = refl
word_same s word.Int ts h = refl
word_same s word.Opaque ts h = refl
word_same s word.Program ts h = refl
word_same s word.Quadruple ts h = refl
word_same s word.String ts h = refl
word_same s word.Struct ts h = refl
word_same s word.Switch ts h = refl
word_same s word.Typedef ts h = rw h refl
word_same s word.Version ts h = refl
word_same s word.Void ts h = refl

other_same : (s : Scope) (n : List ℕ) (ts : List Lexeme)
    → (bytes_eq n (codes "short") && first_is (is_word word.Int) ts) ≡ false → other_name s n ts ≡ same s (Name n)
other_same s n ts h = elim (test (bytes_eq n (codes "short"))) [
  | inl on ↦ let off : first_is (is_word word.Int) ts ≡ false = rw on at h in rw (on, off) refl
  | inr off ↦ rw off refl
]

name_same : (s : Scope) (n : List ℕ) (ts : List Lexeme) → name_begins s n ts ≡ false
    → name_turn s n ts ≡ same s (Name n)
name_same scope.Elsewhere n ts h = other_same scope.Elsewhere n ts h
name_same scope.Head n ts h = other_same scope.Head n ts h
name_same (scope.Members None) n ts h = other_same (scope.Members None) n ts h
name_same (scope.Members (Some number)) n ts h = elim (test (ends_member ts)) [
  | inl on ↦ let no : true ≡ false = rw on at h in absurd cc
  | inr off ↦ rw off (other_same (scope.Members (Some number)) n ts (rw off at h))
]
name_same scope.Value n ts h = other_same scope.Value n ts h
name_same scope.Switch n ts h = other_same scope.Switch n ts h
name_same (scope.Argument true) n ts h = elim (test (ends_argument ts)) [
  | inl on ↦ let no : true ≡ false = rw on at h in absurd cc
  | inr off ↦ rw off (other_same (scope.Argument true) n ts (rw off at h))
]
name_same (scope.Argument false) n ts h = other_same (scope.Argument false) n ts h
name_same scope.Constant n ts h = other_same scope.Constant n ts h

sign_same : (s : Scope) (m : Mark) (ts : List Lexeme) → sign_begins m ts ≡ false → sign_turn s m ts ≡ same s (Sign m)
sign_same s mark.Equal ts h = rw h refl
sign_same s mark.OpenRound ts h = rw h refl
sign_same s mark.OpenBrace ts h = refl
sign_same s mark.CloseBrace ts h = refl
sign_same s mark.CloseRound ts h = refl
sign_same s mark.OpenBracket ts h = refl
sign_same s mark.CloseBracket ts h = refl
sign_same s mark.Less ts h = refl
sign_same s mark.Greater ts h = refl
sign_same s mark.Comma ts h = refl
sign_same s mark.Semicolon ts h = refl
sign_same s mark.Colon ts h = refl
sign_same s mark.Star ts h = refl

number_same : (s : Scope) (n : ℤ) → number_begins s ≡ false → number_turn s n ≡ same s (Number n)
number_same scope.Elsewhere n h = refl
number_same scope.Head n h = refl
number_same (scope.Members m) n h = refl
number_same scope.Value n h = refl
number_same scope.Switch n h = refl
number_same (scope.Argument named) n h = refl
number_same scope.Constant n h = absurd cc

turn_same : (s : Scope) (t : Lexeme) (ts : List Lexeme) → begins s t ts ≡ false → turn s t ts ≡ same s t
turn_same s (Word w) ts h = word_same s w ts h
turn_same s (Name n) ts h = name_same s n ts h
turn_same s (Number n) ts h = number_same s n h
turn_same s (Sign m) ts h = sign_same s m ts h

from_stays : (s : Scope) (ts : List Lexeme) → HasNone s ts → rewritten_from s 0 ts ≡ ts
unfolding rewritten_from HasNone
from_stays s [] h = refl
from_stays s (t ∷ ts) h =
    rw (turn_same s t ts h.0) (ap (λ (l : List Lexeme). t ∷ l) (from_stays (scope_after s t) ts h.1))

pub tokens_stay : TokensStay
tokens_stay ts h = from_stays scope.Elsewhere ts h
