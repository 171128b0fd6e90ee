-- The one unit that decides whether bytes are those of a value.
use Rattle.std.specs.Prelude.{◌≡◌, ℕ, ◌+◌, ◌<◌, ◌≤◌, ◌%◌, List, length, take, drop, IsTrue}
use Rattle.xdr_types.specs.Kinds.{KindView}
use Rattle.xdr_types.specs.Tree.{Tree}
use Rattle.xdr_types.specs.Fits.{Fits, are_bytes}
use Rattle.xdr_types.specs.Spelling.{bytes_of}
use Rattle.xdr_types.specs.declared.decided.Decided.{Decided}

-- these are the bytes of a value of the kind at the place (RFC 4506 section 4)
abbrev pub IsSpelled : List KindView → (place : ℕ) → List ℕ → Type 0
IsSpelled kinds place bs = (t : Tree) × Fits kinds place t × (bytes_of kinds place t ≡ bs)

-- all values of the kind at the place have the unit. As many bytes as one of them has are those of a value, where the
-- unit among them is a value of the kind that decides (RFC 4506 sections 4.3, 4.4, 4.14)
pub record IsDecided (kinds : List KindView) (place : ℕ) (d : Decided) : Type 0 where
  pub known : d.kind.place < length kinds
  pub units : d.at % 4 ≡ 0
  pub inside : (t : Tree) → Fits kinds place t → d.at + 4 ≤ length (bytes_of kinds place t)
  pub decides : (t : Tree) → Fits kinds place t → (bs : List ℕ) → length bs ≡ length (bytes_of kinds place t)
      → IsTrue (are_bytes bs) → IsSpelled kinds d.kind.place (take 4 (drop d.at bs)) → IsSpelled kinds place bs
