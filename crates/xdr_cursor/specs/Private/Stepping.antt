-- One step of a cursor.
use Rattle.std.specs.Prelude.{◌≡◌, ℕ, ◌+◌, ◌<◌, ◌^◌, List, ◌∷◌, Option, None, Some, length}
use Rattle.xdr_types.specs.Kinds.{KindView, Part}
use Rattle.xdr_types.specs.Layout.{Entry, entry}
use Rattle.xdr_parts.specs.Lent.{entry_of, size_in, role_in, IsLentFrom}
use Rattle.xdr_parts.specs.declared.part.Lent.{Lent}
use Rattle.xdr_parts.specs.declared.part.Role.{Role}
use Rattle.xdr_cursor.specs.Frames.{left_in, stack_in}
use Rattle.xdr_cursor.specs.Standing.{Stands}
use Rattle.xdr_cursor.specs.Private.Showing.{part_of}
use Rattle.xdr_cursor.specs.declared.cursor.Cursor.{Cursor}
use Rattle.xdr_cursor.specs.declared.frame.Frame.{Frame}
use Rattle.xdr_cursor.specs.declared.frame.Next.{Next}

-- the cursor goes over the same value, and has lost its place where it had
pub record IsSameValue (old new : Cursor) : Type 0 where
  pub used : new.used ≡ old.used
  pub lost : new.lost ≡ old.lost

-- of the parts that were to come this is the first, and the others are still to come
pub record Gives (c : Cursor) (kinds : List KindView) (bytes : List ℕ) (es : List Entry) (l : Lent) : Type 0 where
  pub rest : List Entry
  pub joined : es ≡ entry_of l ∷ rest
  pub stands : Stands c kinds bytes rest

-- a part is not too deep, and a step can be counted
pub record IsRoomy (c : Cursor) : Type 0 where
  pub shallow : length c.parents.items < 4096
  pub few : c.steps + 1 < 2 ^ 64

-- this is the part of so many bytes where the cursor stands
abbrev pub IsPartAt : Cursor → (bytes : List ℕ) → Next → Role → (size : ℕ) → Lent → Type 0
IsPartAt c bytes n role size l =
    (entry_of l ≡ entry c.at (size_in role size) (length c.parents.items + 1) (part_of n) (role_in role size))
    × IsLentFrom bytes l

-- the cursor has gone a step of so many bytes; then the nodes at work have these parts to begin, behind so much content
pub record Went (kinds : List KindView) (old new : Cursor) (moved : ℕ) (fs : List (List Part)) (size : Option ℕ)
    : Type 0 where
  pub same : IsSameValue old new
  pub at : new.at ≡ old.at + moved
  pub stack : stack_in kinds new.work new.parents.items ≡ fs
  pub content : new.content ≡ size
  pub steps : new.steps ≡ old.steps + 1

-- the cursor stands where it stood
pub record IsUnmoved (old new : Cursor) : Type 0 where
  pub same : IsSameValue old new
  pub at : new.at ≡ old.at
  pub work : new.work ≡ old.work
  pub parents : new.parents.items ≡ old.parents.items
  pub content : new.content ≡ old.content
  pub steps : new.steps ≡ old.steps

-- the part is lent from the bytes and as deep as those of the node at work, and a step has been gone
pub record IsStepped (old new : Cursor) (bytes : List ℕ) (l : Lent) : Type 0 where
  pub lent : IsLentFrom bytes l
  pub depth : l.depth ≡ length old.parents.items + 1
  pub more : old.steps < new.steps
  pub few : new.steps < 2 ^ 64

-- this part of the node at work comes next, and its length has not gone by
abbrev pub IsDuePart : List KindView → Cursor → Next → (rest : Frame) → Type 0
IsDuePart kinds c n rest = (left_in kinds c.work ≡ part_of n ∷ left_in kinds rest) × (c.content ≡ None)

-- this part of the node at work comes next, and of it so many bytes of content
abbrev pub IsDueContent : List KindView → Cursor → Next → (rest : Frame) → (size : ℕ) → Type 0
IsDueContent kinds c n rest size =
    (left_in kinds c.work ≡ part_of n ∷ left_in kinds rest) × (c.content ≡ Some size)
