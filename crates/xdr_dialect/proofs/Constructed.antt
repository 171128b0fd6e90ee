-- The constructs of the dialect, one after another: the turn that each takes, and then what stands in its place.
use Rattle.std.proofs.Common.{◌≡◌, ℕ, ℤ, Bool, true, false, List, ◌∷◌, ◌++◌, refl, ap, Some, inl, inr, pos}
use Rattle.std.specs.Prelude.{◌||◌, codes}
use Rattle.std.specs.Str.{bytes_eq}
use Rattle.std.proofs.lemmas.Bool.{cases_Bool as test}
use Rattle.std.proofs.lemmas.Slice.Eq.{bytes_eq-Decides}
use Rattle.xdr_tokens.specs.declared.token.Keyword.TheVariants as word
use Rattle.xdr_tokens.specs.declared.token.Mark.TheVariants as mark
use Rattle.xdr_tokens.specs.Tokens.{Lexeme, Word, Name, Number, Sign}
use Rattle.xdr_dialect.specs.declared.scope.Scope.{Scope}
use Rattle.xdr_dialect.specs.declared.scope.Scope.TheVariants as scope
use Rattle.xdr_dialect.specs.Tests.{is_word, is_named, first_is}
use Rattle.xdr_dialect.specs.Scopes.{next_number}
use Rattle.xdr_dialect.specs.Rewriting.{is_whole, is_tag, is_declared, ends_member, ends_argument, turn, nothing, same}
use Rattle.xdr_dialect.specs.Rewriting.{Turned, other_name, member_turn, rewritten, rewritten_from}
use Rattle.xdr_dialect.specs.Constructs.{goes_with_unsigned, unsigned, int, short, equal, semicolon, members}
use Rattle.xdr_dialect.specs.Constructs.{behind_type, Kinds, Tags, Others}

-- what a turn gives, and what stands in place of the rest
step : (s : Scope) (t : Lexeme) (ts : List Lexeme) (r : Turned) → turn s t ts ≡ r
    → rewritten_from s 0 (t ∷ ts) ≡ r.out ++ rewritten_from r.scope r.skip ts
unfolding rewritten_from
step s t ts r e = ap (λ (u : Turned). u.out ++ rewritten_from u.scope u.skip ts) e

neither : (a b c : Bool) → (a || b || c) ≡ false → (a ≡ false) × (b ≡ false) × (c ≡ false)
neither false false false h = (refl, refl, refl)
neither true b c h = absurd cc
neither false true c h = absurd cc
neither false false true h = absurd cc

bare : (ts : List Lexeme) → goes_with_unsigned ts ≡ false → rewritten (unsigned ∷ ts) ≡ unsigned ∷ int ∷ rewritten ts
unfolding rewritten_from
bare ts h =
    let each = neither (first_is is_whole ts) (first_is (is_named (codes "char")) ts)
    (first_is (is_named (codes "short")) ts) h in
    rw (each.0, each.1, each.2) refl

unsigned_short : (ts : List Lexeme) → first_is (is_word word.Int) ts ≡ false
    → rewritten (unsigned ∷ short ∷ ts) ≡ unsigned ∷ int ∷ rewritten ts
unfolding rewritten_from
unsigned_short ts h = rw h refl

float_turn : (ts : List Lexeme) → is_declared ts ≡ true
    → turn scope.Elsewhere (Word word.Float) ts ≡ same scope.Elsewhere (Name (codes "float"))
float_turn ts h = rw h refl

float : (ts : List Lexeme) → is_declared ts ≡ true
    → rewritten (Word word.Float ∷ ts) ≡ Name (codes "float") ∷ rewritten ts
unfolding rewritten_from
float ts h = rw (float_turn ts h) refl

double_turn : (ts : List Lexeme) → is_declared ts ≡ true
    → turn scope.Elsewhere (Word word.Double) ts ≡ same scope.Elsewhere (Name (codes "double"))
double_turn ts h = rw h refl

double : (ts : List Lexeme) → is_declared ts ≡ true
    → rewritten (Word word.Double ∷ ts) ≡ Name (codes "double") ∷ rewritten ts
unfolding rewritten_from
double ts h = rw (double_turn ts h) refl

pub kinds : Kinds
unfolding rewritten_from
kinds = record {
  bare_unsigned = bare;
  unsigned_char = λ ts. refl;
  unsigned_short_int = λ ts. refl;
  unsigned_short = unsigned_short;
  short_int = λ ts. refl;
  long_int = λ ts. refl;
  hyper_int = λ ts. refl;
  float = float;
  double = double;
}

enum_turn : (n : List ℕ) (ts : List Lexeme) → is_declared ts ≡ true
    → turn scope.Elsewhere (Word word.Enum) (Name n ∷ ts) ≡ nothing scope.Elsewhere 0
enum_turn n ts h = rw h refl

enum_name : (n : List ℕ) (ts : List Lexeme) → is_declared ts ≡ true
    → rewritten (Word word.Enum ∷ Name n ∷ ts) ≡ rewritten (Name n ∷ ts)
unfolding rewritten_from
enum_name n ts h =
    step scope.Elsewhere (Word word.Enum) (Name n ∷ ts) (nothing scope.Elsewhere 0) (enum_turn n ts h)

union_turn : (n : List ℕ) (ts : List Lexeme) → is_declared ts ≡ true
    → turn scope.Elsewhere (Word word.Union) (Name n ∷ ts) ≡ nothing scope.Elsewhere 0
union_turn n ts h = rw h refl

union_name : (n : List ℕ) (ts : List Lexeme) → is_declared ts ≡ true
    → rewritten (Word word.Union ∷ Name n ∷ ts) ≡ rewritten (Name n ∷ ts)
unfolding rewritten_from
union_name n ts h =
    step scope.Elsewhere (Word word.Union) (Name n ∷ ts) (nothing scope.Elsewhere 0) (union_turn n ts h)

renaming_turn : (tag : Lexeme) (n : List ℕ) (ts : List Lexeme) → is_tag tag ≡ true
    → turn scope.Elsewhere (Word word.Typedef) (tag ∷ Name n ∷ Name n ∷ semicolon ∷ ts) ≡ nothing scope.Elsewhere 4
renaming_turn tag n ts h = rw (h, (bytes_eq-Decides n n).1 refl) refl

renaming : (tag : Lexeme) (n : List ℕ) (ts : List Lexeme) → is_tag tag ≡ true
    → rewritten (Word word.Typedef ∷ tag ∷ Name n ∷ Name n ∷ semicolon ∷ ts) ≡ rewritten ts
unfolding rewritten_from
renaming tag n ts h =
    step scope.Elsewhere (Word word.Typedef) (tag ∷ Name n ∷ Name n ∷ semicolon ∷ ts) (nothing scope.Elsewhere 4)
    (renaming_turn tag n ts h)

pub tags : Tags
tags = record { enum_name = enum_name; union_name = union_name; renaming = renaming }

-- a name that no int follows
plain_name : (s : Scope) (n : List ℕ) (ts : List Lexeme) → first_is (is_word word.Int) ts ≡ false
    → other_name s n ts ≡ same s (Name n)
plain_name s n ts h = elim (test (bytes_eq n (codes "short"))) [
  | inl on ↦ rw (on, h) refl
  | inr off ↦ rw off refl
]

constant_turn : (n : List ℕ) (number : ℤ) (ts : List Lexeme)
    → turn scope.Constant (Name n) (Number number ∷ ts) ≡ same scope.Constant (Name n)
constant_turn n number ts = plain_name scope.Constant n (Number number ∷ ts) refl

definition : (n : List ℕ) (number : ℤ) (ts : List Lexeme)
    → rewritten (equal ∷ Name (codes "define") ∷ Name n ∷ Number number ∷ ts)
    ≡ Word word.Const ∷ Name n ∷ equal ∷ Number number ∷ semicolon ∷ rewritten ts
unfolding rewritten_from
definition n number ts =
    ap (λ (l : List Lexeme). Word word.Const ∷ l) (step scope.Constant (Name n) (Number number ∷ ts)
    (same scope.Constant (Name n)) (constant_turn n number ts))

head_turn : (n : List ℕ) (ts : List Lexeme)
    → turn scope.Head (Name n) (Sign mark.OpenBrace ∷ ts) ≡ same scope.Head (Name n)
head_turn n ts = plain_name scope.Head n (Sign mark.OpenBrace ∷ ts) refl

first_member : (n : List ℕ) (ts : List Lexeme)
    → rewritten (Word word.Enum ∷ Name n ∷ Sign mark.OpenBrace ∷ ts)
    ≡ Word word.Enum ∷ Name n ∷ Sign mark.OpenBrace ∷ members (pos 0) ts
unfolding rewritten_from
first_member n ts =
    ap (λ (l : List Lexeme). Word word.Enum ∷ l) (step scope.Head (Name n) (Sign mark.OpenBrace ∷ ts)
    (same scope.Head (Name n)) (head_turn n ts))

counted_turn : (next : ℤ) (n : List ℕ) (ts : List Lexeme) → ends_member ts ≡ true
    → turn (scope.Members (Some next)) (Name n) ts ≡ member_turn n next
counted_turn next n ts h = rw h refl

member : (next : ℤ) (n : List ℕ) (ts : List Lexeme) → ends_member ts ≡ true
    → members next (Name n ∷ ts)
    ≡ Name n ∷ equal ∷ Number next ∷ rewritten_from (scope.Members (next_number next)) 0 ts
unfolding rewritten_from
member next n ts h = rw (counted_turn next n ts h) refl

argument_turn : (n : List ℕ) (ts : List Lexeme) → ends_argument ts ≡ true
    → turn (scope.Argument true) (Name n) ts ≡ nothing (scope.Argument true) 0
argument_turn n ts h = rw h refl

argument : (n : List ℕ) (ts : List Lexeme) → ends_argument ts ≡ true → behind_type (Name n ∷ ts) ≡ behind_type ts
unfolding rewritten_from
argument n ts h = rw (argument_turn n ts h) refl

pub others : Others
unfolding rewritten_from
others = record {
  definition = definition;
  quoted = λ n ts. refl;
  first_member = first_member;
  member = member;
  name_of_argument = argument;
  no_arguments = λ ts. refl;
}
