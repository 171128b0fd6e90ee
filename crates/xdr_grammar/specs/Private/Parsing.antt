-- What a step of the parser does.
use Rattle.std.specs.Prelude.{◌≡◌, ℕ, List, [], ◌∷◌, Option, Some, None, Result, Ok, Err}
use Rattle.xdr_tokens.specs.declared.fault.Fault.{Fault}
use Rattle.xdr_tokens.specs.declared.fault.Fault.TheVariants as fault
use Rattle.xdr_tokens.specs.declared.fault.Wrong.{Wrong}
use Rattle.xdr_tokens.specs.declared.fault.Wrong.TheVariants as wrong
use Rattle.xdr_tokens.specs.declared.token.Token.{Token}
use Rattle.xdr_tokens.specs.declared.token.Token.TheVariants as code
use Rattle.xdr_grammar.specs.declared.parser.Parser.{Parser}
use Rattle.xdr_grammar.specs.declared.misread.Misplaced.{Misplaced}
use Rattle.xdr_grammar.specs.declared.misread.Misplaced.TheVariants as misplaced
use Rattle.xdr_grammar.specs.declared.misread.Misread.{Misread}
use Rattle.xdr_grammar.specs.declared.misread.Misread.TheVariants as misread
use Rattle.xdr_tokens.specs.Tokens.{Lexeme, lexemes}
use Rattle.xdr_grammar.specs.Outline.{Outline}
use Rattle.xdr_grammar.specs.View.{outline_of}
use Rattle.xdr_grammar.specs.Private.Reading.{Reader, Definer}

-- the fault of a text whose token is refused so
abbrev pub wrong_of : Misplaced → Wrong
wrong_of misplaced.Unexpected = wrong.Unexpected
wrong_of misplaced.FloatingKind = wrong.FloatingKind
wrong_of misplaced.NestedTooDeep = wrong.NestedTooDeep

abbrev pub reported : Misread → Fault
reported (misread.Token why left) = fault.Refused (wrong_of why) left
reported misread.NoMemory = fault.NoMemory

-- Nothing is due, where a token was refused. An allocation failure may come at any time.
abbrev pub MisreadsRightly : {Y : Type 0} → Misread → Option Y → Type 0
MisreadsRightly (misread.Token why left) due = due ≡ None
MisreadsRightly misread.NoMemory due = Unit {0}

-- What a step returned, seen by view, is what is due, unless memory ran out.
abbrev pub Parses : {X Y : Type 0} → (X → Y) → Result X Misread → Option Y → Type 0
Parses view (Ok x) due = due ≡ Some (view x)
Parses view (Err e) due = MisreadsRightly e due

-- the tokens that are left
abbrev pub left : Parser → List Lexeme
left p = lexemes p.rest.now

-- what was declared so far
abbrev pub so_far : Parser → Outline
so_far p = outline_of p.outline

-- A step that reads tokens and declares nothing.
abbrev pub Takes : {X Y : Type 0} → (X → Y) → Result X Misread → (List Lexeme → Option (Y × List Lexeme)) → Parser
    → Parser → Type 0
Takes view result reader old new = Parses (λ x. (view x, left new)) result (reader (left old))

-- A step that reads tokens and may declare something.
abbrev pub Reads : {X Y : Type 0} → (X → Y) → Result X Misread → Reader Y → Parser → Parser → Type 0
Reads view result reader old new = Parses (λ x. (view x, so_far new, left new)) result (reader (so_far old) (left old))

abbrev pub Defines : {X : Type 0} → Result X Misread → Definer → Parser → Parser → Type 0
Defines result reader old new = Parses (λ _. (so_far new, left new)) result (reader (so_far old) (left old))

abbrev pub place_of : Token → ℕ
place_of (code.Word w left) = left
place_of (code.Name n left) = left
place_of (code.Number n left) = left
place_of (code.Sign m left) = left

-- the place of the token in front
abbrev pub place_in : List Token → ℕ
place_in [] = 0
place_in (t ∷ ts) = place_of t
