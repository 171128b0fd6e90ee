-- How many parts a value has, and how many bytes their names.
use Rattle.std.specs.Prelude.{◌≡◌, ℕ, ◌-◌, ◌^◌, min, List, length, map, flat_map}
use Rattle.xdr_types.specs.Kinds.{KindView}
use Rattle.xdr_types.specs.Layout.{Entry, entries}
use Rattle.xdr_types.specs.Tree.{Tree}
use Rattle.xdr_types.specs.Within.{Bounds}
use Rattle.xdr_types.specs.Outcome.{Outcome, Whole}
use Rattle.xdr_parts.specs.Lent.{entry_of, AreLentFrom}
use Rattle.xdr_parts.specs.declared.part.Lent.{Lent}
use Rattle.xdr_parts.specs.declared.counting.PartCounts.{PartCounts}

-- the names of parts, joined
abbrev pub names_of : List Entry → List ℕ
names_of es = flat_map (λ e. e.name) es

-- a number, or the greatest of 64 bits where it is greater
abbrev pub capped : ℕ → ℕ
capped n = min n (2 ^ 64 - 1)

-- The outcome of the input is a value of so many bytes (RFC 4506 section 4). Its layout has so many parts, each of
-- which can be lent from the input, and their names have so many bytes.
pub record AreCounted (kinds : List KindView) (kind : ℕ) (limits : Bounds) (input : List ℕ) (c : PartCounts) : Type 0
  where
    pub value : Tree
    pub whole : Outcome kinds kind limits input (Whole value c.used)
    pub lent : List Lent
    pub each : map entry_of lent ≡ entries kinds kind value
    pub from : AreLentFrom input lent
    pub parts : c.parts ≡ length (entries kinds kind value)
    pub names : c.names ≡ capped (length (names_of (entries kinds kind value)))

-- These are the parts of the value that the outcome of the input is, each lent from it, and the counts are theirs.
pub record AreListed (kinds : List KindView) (kind : ℕ) (limits : Bounds) (input : List ℕ) (ls : List Lent)
    (c : PartCounts) : Type 0 where
  pub value : Tree
  pub whole : Outcome kinds kind limits input (Whole value c.used)
  pub each : map entry_of ls ≡ entries kinds kind value
  pub from : AreLentFrom input ls
  pub parts : c.parts ≡ length (entries kinds kind value)
  pub names : c.names ≡ capped (length (names_of (entries kinds kind value)))
