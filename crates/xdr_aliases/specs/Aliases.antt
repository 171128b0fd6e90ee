-- Names that stand for numbers: const NAME = NAME;, and numbers of programs, versions and procedures that are names
-- (own, after rpcgen, for which each such name is a macro of C). What such a name is, is said in Numbered.antt.
use Rattle.std.specs.Prelude.{ℕ, ℤ, Bool, true, false, ◌&&◌, not, int_le, List, [], ◌∷◌, ◌++◌, Option, Some, None}
use Rattle.std.specs.Prelude.{option_map, if◌then◌else◌}
use Rattle.std.specs.List.{list_any}
use Rattle.xdr_tokens.specs.declared.token.Mark.TheVariants as mark
use Rattle.xdr_tokens.specs.Tokens.{Lexeme, Word, Name, Number, Sign}
use Rattle.xdr_dialect.specs.Tests.{is_sign, first_is, rest}
use Rattle.xdr_constants.specs.Constants.{Known, known}

-- the number in front
abbrev pub number_in : List Lexeme → Option ℤ
number_in [] = None
number_in (Word w ∷ ts) = None
number_in (Name n ∷ ts) = None
number_in (Number n ∷ ts) = Some n
number_in (Sign m ∷ ts) = None

-- the number behind = in front
abbrev pub number_given : List Lexeme → Option ℤ
number_given ts = if first_is (is_sign mark.Equal) ts then number_in (rest ts) else None

-- the name in front
abbrev pub name_in_front : List Lexeme → Option (List ℕ)
name_in_front [] = None
name_in_front (Word w ∷ ts) = None
name_in_front (Name n ∷ ts) = Some n
name_in_front (Number n ∷ ts) = None
name_in_front (Sign m ∷ ts) = None

-- the name behind = in front
abbrev pub name_given : List Lexeme → Option (List ℕ)
name_given ts = if first_is (is_sign mark.Equal) ts then name_in_front (rest ts) else None

-- what follows arguments, in which no ( stands
unfoldable pub behind_arguments : List Lexeme → List Lexeme
behind_arguments [] = []
behind_arguments (t ∷ ts) =
    if is_sign mark.CloseRound t then ts else
    (if is_sign mark.OpenRound t then t ∷ ts else behind_arguments ts)

-- what follows a name, and the arguments behind that of a procedure
abbrev pub behind_name : List Lexeme → List Lexeme
behind_name ts = if first_is (is_sign mark.OpenRound) ts then behind_arguments (rest ts) else ts

-- a name with a number behind it
abbrev pub given_by : Lexeme → List Lexeme → Option Known
given_by (Word w) ts = None
given_by (Name n) ts =
    option_map (λ v. record { name = n; value = v; by_const = true }) (number_given (behind_name ts))
given_by (Number n) ts = None
given_by (Sign m) ts = None

-- one in front, where there is one
abbrev pub with_first : Option Known → List Known → List Known
with_first None ks = ks
with_first (Some k) ks = k ∷ ks

-- The names to which tokens give numbers: NAME = NUMBER and NAME(..) = NUMBER.
unfoldable pub given : List Lexeme → List Known
given [] = []
given (t ∷ ts) = with_first (given_by t ts) (given ts)

-- the number that was found is this one
abbrev pub is_number : ℤ → Option (ℤ × Bool) → Bool
is_number v None = false
is_number v (Some found) = int_le v found.0 && int_le found.0 v

-- the first with the same name has another number
abbrev pub clashes : List Known → Known → Bool
clashes ks k = not (is_number k.value (known k.name ks))

-- some name has two numbers
abbrev pub has_clash : List Known → Bool
has_clash ks = list_any (clashes ks) ks

-- the names with their numbers, none where one of them has two
abbrev pub apart : List Known → List Known
apart ks = if has_clash ks then [] else ks

-- the number of a name, where there is one
abbrev pub number_named : List Known → Option (List ℕ) → Option ℤ
number_named ks None = None
number_named ks (Some m) = option_map (λ (found : ℤ × Bool). found.0) (known m ks)

-- a name with a name behind it that has a number
abbrev pub named_by : List Known → Lexeme → List Lexeme → Option Known
named_by ks (Word w) ts = None
named_by ks (Name n) ts =
    option_map (λ v. record { name = n; value = v; by_const = true }) (number_named ks (name_given (behind_name ts)))
named_by ks (Number n) ts = None
named_by ks (Sign m) ts = None

-- one behind the others, where there is one
abbrev pub with_last : List Known → Option Known → List Known
with_last ks None = ks
with_last ks (Some k) = ks ++ k ∷ []

-- the names with their numbers, and where names are followed the one in front
abbrev pub followed_one : (follows : Bool) → List Known → Lexeme → List Lexeme → List Known
followed_one follows ks t ts = if follows then with_last ks (named_by ks t ts) else ks

-- The names with their numbers, and those to which tokens give a name that has one before: NAME = NAME and
-- NAME(..) = NAME.
unfoldable pub followed : (follows : Bool) → List Known → List Lexeme → List Known
followed follows ks [] = ks
followed follows ks (t ∷ ts) = followed follows (followed_one follows ks t ts) ts

-- the number of a name, or the name
abbrev pub number_or : List ℕ → Option (ℤ × Bool) → Lexeme
number_or n None = Name n
number_or n (Some found) = Number found.0

-- A name between = and ; is its number.
abbrev pub valued : List Known → (value : Bool) → Lexeme → List Lexeme → Lexeme
valued ks value (Word w) ts = Word w
valued ks value (Name n) ts =
    if value && first_is (is_sign mark.Semicolon) ts then number_or n (known n ks) else Name n
valued ks value (Number n) ts = Number n
valued ks value (Sign m) ts = Sign m

-- the tokens behind = or not; the names with their numbers are those before each token
unfoldable pub resolved_from : (follows : Bool) → List Known → (value : Bool) → List Lexeme → List Lexeme
resolved_from follows ks value [] = []
resolved_from follows ks value (t ∷ ts) =
    valued ks value t ts ∷ resolved_from follows (followed_one follows ks t ts) (is_sign mark.Equal t) ts

-- The tokens with numbers in place of the names that stand for them. Names are followed where none has two numbers
-- then.
abbrev pub resolved : List Lexeme → List Lexeme
resolved ts = resolved_from (not (has_clash (followed true (apart (given ts)) ts))) (apart (given ts)) false ts
