-- What is noted of each kind when a schema is built, and what is retained while extents and levels are found.
use Rattle.std.specs.Prelude.{◌≡◌, ℕ, ◌+◌, ◌<◌, ◌≤◌, ◌%◌, ◌*◌, ◌==◌, List, length, ◌&&◌, max, IsTrue}
use Rattle.std.specs.Prelude.{slice_index_or, IfSome, true}
use Rattle.xdr_units.specs.Numbers.{gap}
use Rattle.xdr_types.specs.Kinds.{KindView, Part, kind_at}
use Rattle.xdr_types.specs.Tree.{Head, Values, depth_of}
use Rattle.xdr_types.specs.Fits.{fit, parts, are_bytes}
use Rattle.xdr_types.specs.Spelling.{spelling}
use Rattle.xdr_types.specs.Extent.{IsExtent}
use Rattle.xdr_types.specs.Decided.{IsDecided}
use Rattle.xdr_types.specs.Levels.{IsMostLevels}
use Rattle.xdr_types.specs.Private.Lookups.{MayFind}
use Rattle.xdr_types.specs.declared.extent.Extent.{Extent}
use Rattle.xdr_types.specs.declared.notes.Noted.{Noted}

-- what is noted of the kind at a place is so
pub record IsNoted (kinds : List KindView) (place : ℕ) (n : Noted) : Type 0 where
  pub numbers : MayFind (kind_at kinds place) n.numbers
  pub extent : IfSome n.extent (IsExtent kinds place)
  pub decided : IfSome n.decided (IsDecided kinds place)
  pub levels : IfSome n.levels (IsMostLevels kinds place)

-- the same at each place
abbrev pub AreNoted : List KindView → List Noted → Type 0
AreNoted kinds notes =
    (place : ℕ) (n : Noted) → place < length notes → n ≡ slice_index_or notes place n → IsNoted kinds place n

-- there is a note for each kind
pub record AreNotes (kinds : List KindView) (notes : List Noted) : Type 0 where
  pub lengths : length notes ≡ length kinds
  pub each : AreNoted kinds notes

-- what all values of parts one after another share: the count of their bytes, their levels, and, where they are free,
-- that any so many bytes are theirs
pub record Shares (kinds : List KindView) (ps : List Part) (e : Extent) : Type 0 where
  pub bytes : (vs : Values) → fit kinds ps vs ≡ true → length (spelling kinds ps vs) ≡ e.bytes
  pub levels : (vs : Values) → fit kinds ps vs ≡ true → depth_of vs ≡ e.depth
  pub free : IsTrue e.free → (bs : List ℕ) → length bs ≡ e.bytes → IsTrue (are_bytes bs)
      → (vs : Values) × (fit kinds ps vs ≡ true) × (spelling kinds ps vs ≡ bs)

-- the extent of fields, before the structure itself is counted: whole units, 65536 bytes at most, 16 levels at most
pub record IsOfParts (kinds : List KindView) (ps : List Part) (e : Extent) : Type 0 where
  pub shares : Shares kinds ps e
  pub most : e.bytes ≤ 65536
  pub units : e.bytes % 4 ≡ 0
  pub shallow : e.depth ≤ 16

-- one extent before another
pub record IsJoined (a b r : Extent) : Type 0 where
  pub bytes : r.bytes ≡ a.bytes + b.bytes
  pub most : r.bytes ≤ 65536
  pub depth : r.depth ≡ max b.depth a.depth
  pub free : r.free ≡ (a.free && b.free)

-- the extent of so many bytes, and the zeros after them (RFC 4506 section 4.9)
pub record IsOpaque (size : ℕ) (r : Extent) : Type 0 where
  pub some : 0 < size
  pub most : size ≤ 65536
  pub bytes : r.bytes ≡ size + gap size
  pub depth : r.depth ≡ 1
  pub free : r.free ≡ (size % 4 == 0)

-- the extent of so many items (RFC 4506 section 4.12)
pub record IsRepeated (item : Extent) (size : ℕ) (r : Extent) : Type 0 where
  pub some : 0 < r.bytes
  pub most : r.bytes ≤ 65536
  pub bytes : r.bytes ≡ item.bytes * size
  pub shallow : item.depth < 16
  pub depth : r.depth ≡ item.depth + 1
  pub free : r.free ≡ item.free

-- the extent of a structure, by that of its fields (RFC 4506 section 4.14)
pub record IsOver (fields r : Extent) : Type 0 where
  pub some : 0 < r.bytes
  pub bytes : r.bytes ≡ fields.bytes
  pub shallow : fields.depth < 16
  pub depth : r.depth ≡ fields.depth + 1
  pub free : r.free ≡ fields.free

-- values one after another, one for each part, have no more levels
abbrev pub AreWithin : List KindView → List Part → ℕ → Type 0
AreWithin kinds ps most = (vs : Values) → fit kinds ps vs ≡ true → depth_of vs ≤ most

-- the parts of a value of a kind have no more levels
abbrev pub IsUnder : List KindView → KindView → ℕ → Type 0
IsUnder kinds f most = (h : Head) → AreWithin kinds (parts f h) most
