-- The parts of a value that are handed out a few at a time.
use Rattle.std.specs.Prelude.{◌≡◌, ℕ, ◌+◌, ◌≤◌, ◌<◌, ◌^◌, List, ◌++◌, true, length, map, drop}
use Rattle.std.specs.List.{AllByRecursion}
use Rattle.xdr_types.specs.Kinds.{KindView}
use Rattle.xdr_types.specs.Layout.{Entry}
use Rattle.xdr_types.specs.Spelling.{bytes_of}
use Rattle.xdr_types.specs.Tree.{Tree}
use Rattle.xdr_types.specs.Within.{Bounds, FitsWithin}
use Rattle.xdr_laws.specs.Owed.{Completes}
use Rattle.xdr_stream.specs.Frames.{stack_of, dues}
use Rattle.xdr_parts.specs.Lent.{entry_of, AreLentFrom}
use Rattle.xdr_parts.specs.declared.coming.PartWalk.{PartWalk}

-- these bytes, all of them, are the encoding of a value of the kind within the limits (RFC 4506 section 4)
abbrev pub IsOneValue : List KindView → (kind : ℕ) → Bounds → (bytes : List ℕ) → Tree → Type 0
IsOneValue kinds kind limits bytes v = FitsWithin kinds kind limits v × (bytes ≡ bytes_of kinds kind v)

-- These parts of a value that is spelled by the bytes are still to come.
pub record Awaits (w : PartWalk) (bytes : List ℕ) (es : List Entry) : Type 0 where
  pub spelled : w.walk.bytes.now ≡ bytes
  pub owes : Completes w.walk.schema.now.kinds w.walk.at (dues (stack_of w.walk.work w.walk.parents.items))
      (drop w.walk.at w.walk.bytes.now) es
  pub within : w.walk.at ≤ length w.walk.bytes.now
  pub low : AllByRecursion (λ (e : Entry). e.depth ≤ 4096) es
  pub lists : w.walk.taken.lists ≡ true
  pub few : w.handed + length es + 2 < 2 ^ 64

-- Of parts that were to come, the first were handed out last, lent from the bytes, and the others are still to come.
pub record HandsOut (w : PartWalk) (bytes : List ℕ) (es : List Entry) : Type 0 where
  pub rest : List Entry
  pub joined : es ≡ map entry_of w.walk.taken.list.items ++ rest
  pub lent : AreLentFrom bytes w.walk.taken.list.items
  pub awaits : Awaits w bytes rest
