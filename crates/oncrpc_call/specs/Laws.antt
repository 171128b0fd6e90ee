-- Laws of what is printed of results.
use Rattle.std.specs.Prelude.{◌≡◌, ℕ, List}
use Rattle.oncrpc_call.specs.Asked.{Wanted}
use Rattle.oncrpc_call.specs.Results.{RefusesResults, ShowsResults}

-- No results are a value of the kind to the last byte and refused, too.
abbrev pub OneEnding : Type 0
OneEnding = (w : Wanted) (results text line : List ℕ) → ShowsResults w results text
    → RefusesResults w results line → ⊥

-- What is printed of results is one text.
abbrev pub OneText : Type 0
OneText = (w : Wanted) (results text other : List ℕ) → ShowsResults w results text → ShowsResults w results other
    → text ≡ other

-- What is said of results that are refused is one line.
abbrev pub OneLine : Type 0
OneLine = (w : Wanted) (results line other : List ℕ) → RefusesResults w results line
    → RefusesResults w results other → line ≡ other
