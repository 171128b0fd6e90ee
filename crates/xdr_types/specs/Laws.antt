-- Laws of values and their encodings.
use Rattle.std.specs.Prelude.{◌≡◌, ◌↔◌, ℕ, ◌<◌, List, [], ◌++◌, length}
use Rattle.std.specs.List.{AllByRecursion}
use Rattle.xdr_types.specs.Kinds.{KindView, Part, Lists, kind_at}
use Rattle.xdr_types.specs.Tree.{Tree, Head}
use Rattle.xdr_types.specs.Fits.{Fits, parts}
use Rattle.xdr_types.specs.Spelling.{bytes_of}
use Rattle.xdr_types.specs.Sound.{IsSound}
use Rattle.xdr_types.specs.Faults.{IsWellFormed}

-- one list of bytes begins with the encoding of one value of a kind at most, and so has one rest after it
abbrev pub EachSpellingIsOneValue : List KindView → Type 0
EachSpellingIsOneValue kinds =
    (place : ℕ) (t u : Tree) (x y : List ℕ) → Fits kinds place t → Fits kinds place u
    → bytes_of kinds place t ++ x ≡ bytes_of kinds place u ++ y → (t ≡ u) × (x ≡ y)

-- two values of a kind are equal exactly if their encodings are
abbrev pub EqualExactlyIfSpelledAlike : List KindView → Type 0
EqualExactlyIfSpelledAlike kinds =
    (place : ℕ) (t u : Tree) → Fits kinds place t → Fits kinds place u
    → (t ≡ u) ↔ (bytes_of kinds place t ≡ bytes_of kinds place u)

-- no encoding of a kind begins another: where more follows one to make another, that is nothing
abbrev pub NoSpellingBeginsAnother : List KindView → Type 0
NoSpellingBeginsAnother kinds =
    (place : ℕ) (t u : Tree) (more : List ℕ) → Fits kinds place t → Fits kinds place u
    → bytes_of kinds place t ++ more ≡ bytes_of kinds place u → more ≡ []

-- every kind has a value
abbrev pub EachKindHasAValue : List KindView → Type 0
EachKindHasAValue kinds = (place : ℕ) → place < length kinds → (t : Tree) × Fits kinds place t

-- every kind of a schema that is well formed and sound has a value
abbrev pub EachKindOfASchemaHasAValue : Type 0
EachKindOfASchemaHasAValue = (s : Lists) → IsWellFormed s → IsSound s.kinds → EachKindHasAValue s.kinds

-- the parts of any node are kinds of the list
abbrev pub EachPartIsKnown : List KindView → Type 0
EachPartIsKnown kinds =
    (place : ℕ) (h : Head) → place < length kinds
    → AllByRecursion (λ (p : Part). p.kind < length kinds) (parts (kind_at kinds place) h)
