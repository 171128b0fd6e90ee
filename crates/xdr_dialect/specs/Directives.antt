-- What a line of # says (own, after the C preprocessor that rpcgen runs).
use Rattle.std.specs.Prelude.{ℕ, ◌==◌, ◌&&◌, ◌||◌, not, Bool, true, false, List, [], ◌∷◌, take, drop, codes}
use Rattle.std.specs.Prelude.{Option, Some, None, option_map, if◌then◌else◌}
use Rattle.std.specs.List.{list_all, list_any}
use Rattle.std.specs.Str.{bytes_eq}
use Rattle.xdr_tokens.specs.Bytes.{run_length, is_digit, is_word}
use Rattle.xdr_dialect.specs.declared.directive.Directive.{Directive}
use Rattle.xdr_dialect.specs.declared.directive.Directive.TheVariants as line
use Rattle.xdr_dialect.specs.declared.gate.Gate.{Gate}
use Rattle.xdr_dialect.specs.declared.gate.Gate.TheVariants as gate
use Rattle.xdr_dialect.specs.Blanks.{after_blanks, ends, closes}

-- the letters, digits and _ in front
abbrev pub word_in : List ℕ → List ℕ
word_in bs = take (run_length bs) bs

-- what follows them, and blanks and comments
abbrev pub after_word : List ℕ → List ℕ
after_word bs = after_blanks (drop (run_length bs) bs)

-- letters, digits and _ that do not begin with a digit
abbrev pub is_name : List ℕ → Bool
is_name [] = false
is_name (b ∷ bs) = not (is_digit b)

-- a name that a line of #ifdef can ask for
abbrev pub is_identifier : List ℕ → Bool
is_identifier bs = is_name bs && list_all is_word bs

-- one of these
abbrev pub is_among : List (List ℕ) → List ℕ → Bool
is_among names run = list_any (bytes_eq run) names

-- whether the name is defined, by the caller or by lines of the text before it, where there is one
abbrev pub defined : (names own : List (List ℕ)) → List ℕ → Option Bool
defined names own run = if is_name run then Some (is_among names run || is_among own run) else None

-- The condition of #if, where it is 0, 1, or a name, which holds where the caller defines it. What a line of the text
-- makes of a name may be 0, so of such a name nothing is known.
abbrev pub condition : (names own : List (List ℕ)) → List ℕ → Option Bool
condition names own bs =
    if not (ends (after_word bs)) || is_among own (word_in bs) then None else
    (if bytes_eq (word_in bs) (codes "0") then Some false else
    (if bytes_eq (word_in bs) (codes "1") then Some true else defined names own (word_in bs)))

-- what follows a - in front
abbrev pub after_minus : List ℕ → List ℕ
after_minus [] = []
after_minus (b ∷ bs) = if b == 45 then bs else b ∷ bs

-- a digit is in front
abbrev pub begins_digit : List ℕ → Bool
begins_digit [] = false
begins_digit (b ∷ bs) = is_digit b

-- a number, and nothing else on the line
abbrev pub is_numeral : List ℕ → Bool
is_numeral bs = begins_digit (after_minus bs) && ends (after_word (after_minus bs))

-- #define NAME, and #define NAME NUMBER
abbrev pub definition : List ℕ → Directive
definition bs =
    if not (is_name (word_in bs)) then line.Other else
    (if ends (after_word bs) then line.Definition false else
    (if is_numeral (after_word bs) then line.Definition true else line.Other))

-- what the word behind # says, and what follows it
abbrev pub directive_of : (names own : List (List ℕ)) → (word rest : List ℕ) → Directive
directive_of names own word rest =
    if bytes_eq word (codes "ifdef") then line.Section (defined names own (word_in rest)) else
    (if bytes_eq word (codes "ifndef") then line.Section (option_map not (defined names own (word_in rest))) else
    (if bytes_eq word (codes "if") then line.Section (condition names own rest) else
    (if bytes_eq word (codes "else") then line.Otherwise else
    (if bytes_eq word (codes "endif") then line.End else
    (if bytes_eq word (codes "define") then definition rest else
    (if bytes_eq word (codes "elif") then line.OtherwiseIf (condition names own rest) else
    (if bytes_eq word (codes "include") || bytes_eq word (codes "pragma") || bytes_eq word (codes "ident")
    || bytes_eq word [] && ends rest then line.Nothing else line.Other)))))))

-- What a line of # says, from what follows the #, where the text has defined these names of its own. Of a line with a
-- comment that does not end nothing is known.
abbrev pub directive : (names own : List (List ℕ)) → List ℕ → Directive
directive names own bs =
    let rest = after_blanks bs in
    if closes bs then directive_of names own (word_in rest) (after_word rest) else line.Other

-- the name of #define, from what follows the #
abbrev pub name_of_definition : List ℕ → List ℕ
name_of_definition bs = word_in (after_word (after_blanks bs))

-- the text is shown: it is in no section, or in the branch that is chosen
abbrev pub is_shown : Gate → Bool
is_shown gate.Outside = true
is_shown gate.Taken = true
is_shown gate.Last = true
is_shown gate.Waiting = false
is_shown gate.Over = false
is_shown gate.Dead = false

-- inside #if, whose condition holds or not
abbrev pub opened : Gate → Bool → Gate
opened g holds = if is_shown g then (if holds then gate.Taken else gate.Waiting) else gate.Dead

-- behind #else, where one may stand
abbrev pub turned : Gate → Option Gate
turned gate.Taken = Some gate.Over
turned gate.Waiting = Some gate.Last
turned gate.Dead = Some gate.Over
turned gate.Outside = None
turned gate.Last = None
turned gate.Over = None

-- Behind #elif, whose condition holds or not. Behind a branch that was chosen no other is.
abbrev pub turned_if : Gate → Option Bool → Option Gate
turned_if gate.Waiting (Some true) = Some gate.Taken
turned_if gate.Waiting (Some false) = Some gate.Waiting
turned_if gate.Waiting None = None
turned_if gate.Taken holds = Some gate.Dead
turned_if gate.Dead holds = Some gate.Dead
turned_if gate.Outside holds = None
turned_if gate.Last holds = None
turned_if gate.Over holds = None
