-- Reading one piece from the front of a text.
use Rattle.std.specs.Prelude.{◌+◌, ℕ, Bool, false, ◌==◌, if◌then◌else◌, List, [], ◌∷◌, take, drop, get_or}
use Rattle.std.specs.Prelude.{Option, Some, None, option_and_then}
use Rattle.xdr_tokens.specs.Tokens.{Lexeme, Number, Sign}
use Rattle.xdr_tokens.specs.Keywords.{word_or_name}
use Rattle.xdr_tokens.specs.Bytes.{is_space, is_letter, is_digit, run_length, after_comment, number_of}
use Rattle.xdr_tokens.specs.declared.token.Mark.{Mark}
use Rattle.xdr_tokens.specs.Text.{mark_text, marks}

-- the byte of a mark
abbrev pub mark_code : Mark → ℕ
mark_code m = get_or (mark_text m) 0 0

-- the mark of the list with that byte
abbrev pub mark_among : List Mark → ℕ → Option Mark
mark_among [] b = None
mark_among (m ∷ ms) b = if b == mark_code m then Some m else mark_among ms b

-- the mark with that byte
abbrev pub mark_of : ℕ → Option Mark
mark_of b = mark_among marks b

-- after /
unfoldable pub comment_at : List ℕ → Option (List ℕ)
comment_at [] = None
comment_at (b ∷ bs) = if b == 42 then after_comment bs else None

-- the first n bytes as a number
abbrev pub numeral_at : ℕ → List ℕ → Option (Option Lexeme × List ℕ)
numeral_at n bs = option_and_then (λ v. Some (Some (Number v), drop n bs)) (number_of (take n bs))

-- white space is in front
abbrev pub is_blank : List ℕ → Bool
is_blank [] = false
is_blank (b ∷ bs) = is_space b

-- the token in front, or none at white space and comments, and what follows
unfoldable pub piece_at : List ℕ → Option (Option Lexeme × List ℕ)
piece_at [] = None
piece_at (b ∷ bs) =
    if is_space b then Some (None, bs) else
    (if b == 47 then option_and_then (λ rest. Some (None, rest)) (comment_at bs) else
    (if is_letter b then Some (
      Some (word_or_name (take (run_length (b ∷ bs)) (b ∷ bs))),
      drop (run_length (b ∷ bs)) (b ∷ bs),
    ) else
    (if is_digit b then numeral_at (run_length (b ∷ bs)) (b ∷ bs) else
    (if b == 45 then numeral_at (1 + run_length bs) (b ∷ bs) else
    option_and_then (λ m. Some (Some (Sign m), bs)) (mark_of b)))))
