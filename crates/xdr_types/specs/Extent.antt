-- What all values of a kind share, where each has the same count of bytes.
use Rattle.std.specs.Prelude.{◌≡◌, ℕ, ◌<◌, ◌≤◌, ◌%◌, List, length, IsTrue}
use Rattle.xdr_types.specs.Kinds.{KindView}
use Rattle.xdr_types.specs.Tree.{Tree, depth}
use Rattle.xdr_types.specs.Fits.{Fits, are_bytes}
use Rattle.xdr_types.specs.Spelling.{bytes_of}
use Rattle.xdr_types.specs.declared.extent.Extent.{Extent}

-- an extent has whole units, 4 to 65536 bytes of them (RFC 4506 section 3), and 1 to 16 levels
pub record IsBounded (e : Extent) : Type 0 where
  pub some : 0 < e.bytes
  pub most : e.bytes ≤ 65536
  pub units : e.bytes % 4 ≡ 0
  pub low : 0 < e.depth
  pub shallow : e.depth ≤ 16

-- each value of the kind at the place has so many bytes and so many levels. Where the extent is free, any so many bytes
-- are those of a value (RFC 4506 sections 4.1 to 4.5, 4.9, 4.12, 4.14)
pub record IsExtent (kinds : List KindView) (place : ℕ) (e : Extent) : Type 0 where
  pub within : place < length kinds
  pub bounded : IsBounded e
  pub bytes : (t : Tree) → Fits kinds place t → length (bytes_of kinds place t) ≡ e.bytes
  pub levels : (t : Tree) → Fits kinds place t → depth t ≡ e.depth
  pub free : IsTrue e.free → (bs : List ℕ) → length bs ≡ e.bytes → IsTrue (are_bytes bs)
      → (t : Tree) × Fits kinds place t × (bytes_of kinds place t ≡ bs)
