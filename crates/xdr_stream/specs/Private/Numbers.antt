-- Numbers of an array that are made at once.
use Rattle.std.specs.Prelude.{◌≡◌, ℕ, true, false, List, replicate}
use Rattle.xdr_types.specs.Kinds as xdr
use Rattle.xdr_types.specs.Kinds.{KindView, Part, kind_at}
use Rattle.xdr_types.specs.Tree.{Values}
use Rattle.xdr_types.specs.Fits.{item_part}
use Rattle.xdr_stream.specs.Private.Complete.{IsOneLeaf}
use Rattle.xdr_stream.specs.Private.Made.{AreMade}
use Rattle.xdr_stream.specs.declared.builder.Leaf.{Leaf}
use Rattle.xdr_stream.specs.declared.builder.bulk.Number.{Number}
use Rattle.xdr_stream.specs.declared.builder.bulk.Number.TheVariants.{Int, Unsigned, Hyper, UnsignedHyper}
use Rattle.xdr_stream.specs.declared.builder.tally.Tally.{Tally}

-- the kind of such numbers (RFC 4506 sections 4.1, 4.2, 4.5)
abbrev pub kind_of : Number → KindView
kind_of Int = xdr.int
kind_of Unsigned = xdr.unsigned
kind_of Hyper = xdr.hyper
kind_of UnsignedHyper = xdr.unsigned_hyper

-- how many bytes one has (RFC 4506 sections 4.1, 4.2, 4.5)
abbrev pub width_of : Number → ℕ
width_of Int = 4
width_of Unsigned = 4
width_of Hyper = 8
width_of UnsignedHyper = 8

-- these are the bytes of this number (RFC 4506 sections 4.1, 4.2, 4.5)
abbrev pub IsNumber : Number → List ℕ → Leaf → Type 0
IsNumber n bytes leaf = (kinds : List KindView) (place : ℕ) → kind_of n ≡ kind_at kinds place
    → IsOneLeaf kinds place bytes leaf

-- the values are so many of these numbers, their bytes were taken, and they are counted (RFC 4506 section 4.12)
abbrev pub AreNumbers : Number → (count : ℕ) → List ℕ → (a b : Tally) → Values → Type 0
AreNumbers n count bytes a b vs = (kinds : List KindView) (place : ℕ) → kind_of n ≡ kind_at kinds place
    → AreMade kinds (replicate count (item_part place)) bytes a b vs

-- the parts are so many of these numbers (RFC 4506 section 4.12)
abbrev pub IsRunOf : List KindView → List Part → Number → (count : ℕ) → Type 0
IsRunOf kinds ps n count = (place : ℕ) × (ps ≡ replicate count (item_part place))
    × (kind_of n ≡ kind_at kinds place)
