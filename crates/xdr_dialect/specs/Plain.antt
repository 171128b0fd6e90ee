-- A text in rpcgen's dialect without its lines of % and #, every byte that is kept at its place (own).
use Rattle.std.specs.Prelude.{ℕ, suc, ◌==◌, ◌&&◌, Bool, true, false, List, [], ◌∷◌, ◌++◌, length}
use Rattle.std.specs.Prelude.{Option, Some, None, option_map, if◌then◌else◌, Result, Ok, Err}
use Rattle.xdr_tokens.specs.declared.fault.Fault.{Fault}
use Rattle.xdr_tokens.specs.declared.fault.Fault.TheVariants as fault
use Rattle.xdr_tokens.specs.declared.fault.Wrong.TheVariants as wrong
use Rattle.xdr_dialect.specs.declared.directive.Directive.{Directive}
use Rattle.xdr_dialect.specs.declared.directive.Directive.TheVariants as line
use Rattle.xdr_dialect.specs.declared.gate.Gate.{Gate}
use Rattle.xdr_dialect.specs.declared.gate.Gate.TheVariants as gate
use Rattle.xdr_dialect.specs.declared.part.Part.TheVariants as part
use Rattle.xdr_dialect.specs.declared.spot.Spot.{Spot}
use Rattle.xdr_dialect.specs.declared.spot.Spot.TheVariants as spot
use Rattle.xdr_dialect.specs.Spots.{blank, kept, next_spot}
use Rattle.xdr_dialect.specs.Directives.{directive, name_of_definition, is_shown, opened, turned, turned_if}

-- where a byte stands: on its line, in which sections of #if, the innermost first, and behind #define of which names
pub record Standing : Type 0 where
  pub spot : Spot
  pub gate : Gate
  pub outer : List Gate
  pub defines : List (List ℕ)

-- the byte in place of one, and where the next stands
pub record Turn : Type 0 where
  pub byte : ℕ
  pub next : Standing

-- nothing stays of the line
abbrev pub hidden : Standing → Gate → List Gate → Turn
hidden s g outer = record { byte = 32; next = record s { spot = spot.Line part.Words; gate = g; outer = outer } }

-- behind #endif, where a section is open
abbrev pub closed : Standing → List Gate → Option Turn
closed s [] = None
closed s (g ∷ gs) = Some (hidden s g gs)

-- #define of a name: with a number = stays in place of the #, and the rest of the line, else nothing
abbrev pub defining : Standing → (number : Bool) → (name : List ℕ) → Turn
defining s true name =
    record { byte = 61; next = record s { spot = spot.Text; defines = s.defines ++ name ∷ [] } }
defining s false name =
    record { byte = 32; next = record s { spot = spot.Line part.Words; defines = s.defines ++ name ∷ [] } }

-- What a line of # does: none may stand where it has no meaning. In a branch that is not chosen #if, #elif, #else and
-- #endif count alone.
abbrev pub directed : Standing → Directive → (name : List ℕ) → Option Turn
directed s (line.Section None) name = if is_shown s.gate then None else Some (hidden s gate.Dead (s.gate ∷ s.outer))
directed s (line.Section (Some holds)) name = Some (hidden s (opened s.gate holds) (s.gate ∷ s.outer))
directed s line.Otherwise name = option_map (λ g. hidden s g s.outer) (turned s.gate)
directed s (line.OtherwiseIf holds) name = option_map (λ g. hidden s g s.outer) (turned_if s.gate holds)
directed s line.End name = closed s s.outer
directed s (line.Definition number) name =
    if is_shown s.gate then Some (defining s number name) else Some (hidden s s.gate s.outer)
directed s line.Nothing name = Some (hidden s s.gate s.outer)
directed s line.Other name = if is_shown s.gate then None else Some (hidden s s.gate s.outer)

-- a line may begin here
abbrev pub is_fresh : Spot → Bool
is_fresh spot.Fresh = true
is_fresh spot.Hidden = false
is_fresh spot.Escaped = false
is_fresh (spot.Line p) = false
is_fresh spot.Text = false
is_fresh spot.Slash = false
is_fresh spot.Comment = false
is_fresh spot.Star = false
is_fresh spot.Quoted = false

-- another byte: it is kept where the text is shown
abbrev pub passed : Standing → ℕ → Turn
passed s b = record {
  byte = if is_shown s.gate then kept s.spot b else blank b;
  next = record s { spot = next_spot s.spot b };
}

-- the byte in place of b, before bs
abbrev pub turn : (names : List (List ℕ)) → Standing → ℕ → List ℕ → Option Turn
turn names s b bs =
    if is_fresh s.spot && (b == 35) then directed s (directive names s.defines bs) (name_of_definition bs)
    else Some (passed s b)

-- bytes before those that come of the rest
abbrev pub joined : List ℕ → Result (List ℕ) Fault → Result (List ℕ) Fault
joined bs (Ok cs) = Ok (bs ++ cs)
joined bs (Err e) = Err e

-- at the end of the text no section is open
abbrev pub ended : List Gate → Result (List ℕ) Fault
ended [] = Ok []
ended (g ∷ gs) = Err (fault.Refused wrong.Unexpected 0)

-- what comes of a text whose first byte is so many before its end, where the rest stands behind that byte
abbrev pub with_turn : Option Turn → (left : ℕ) → (Standing → Result (List ℕ) Fault) → Result (List ℕ) Fault
with_turn None left rest = Err (fault.Refused wrong.BadCharacter left)
with_turn (Some t) left rest = joined (t.byte ∷ []) (rest t.next)

-- the bytes in place of those of the rest of a text
unfoldable pub plain_from : (names : List (List ℕ)) → Standing → List ℕ → Result (List ℕ) Fault
plain_from names s [] = ended s.outer
plain_from names s (b ∷ bs) = with_turn (turn names s b bs) (suc (length bs)) (λ next. plain_from names next bs)

-- where a text begins
abbrev pub beginning : Standing
beginning = record { spot = spot.Fresh; gate = gate.Outside; outer = []; defines = [] }

-- The text without its lines of % and #, where these names are defined, or the first fault of those lines. That is a
-- line that has no meaning where it stands, at its #, or at the end a section that is open.
abbrev pub plain : (names : List (List ℕ)) → List ℕ → Result (List ℕ) Fault
plain names text = plain_from names beginning text
