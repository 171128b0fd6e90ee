-- Parts that are passed over.
use Rattle.std.specs.Prelude.{◌≡◌, ℕ, ◌<◌, List, ◌∷◌, ◌++◌, length}
use Rattle.std.specs.List.{AllByRecursion}
use Rattle.xdr_types.specs.Kinds.{KindView, Part}
use Rattle.xdr_types.specs.Layout.{Entry}
use Rattle.xdr_cursor.specs.Frames.{left_in}
use Rattle.xdr_cursor.specs.Standing.{Stands}
use Rattle.xdr_cursor.specs.declared.cursor.Cursor.{Cursor}
use Rattle.xdr_cursor.specs.declared.frame.Frame.{Frame}

-- the node at work begins with a part of this kind, and then comes the rest
abbrev pub BeginsWith : List KindView → Frame → (place : ℕ) → Frame → Type 0
BeginsWith kinds work place rest =
    (p : Part) × (p.kind ≡ place) × (left_in kinds work ≡ p ∷ left_in kinds rest)

-- the node at work begins with so many parts of this kind, one at least, and then comes the rest
pub record IsRun (kinds : List KindView) (work : Frame) (place count : ℕ) (rest : Frame) : Type 0 where
  pub run : List Part
  pub each : AllByRecursion (λ (p : Part). p.kind ≡ place) run
  pub count_is : count ≡ length run
  pub some : 0 < count
  pub joined : left_in kinds work ≡ run ++ left_in kinds rest

-- of parts that were to come some are passed over, none of which is less deep than those of the node at work
pub record GoesOver (old new : Cursor) (kinds : List KindView) (bytes : List ℕ) (es : List Entry) : Type 0 where
  pub passed : List Entry
  pub rest : List Entry
  pub joined : es ≡ passed ++ rest
  pub deeper : AllByRecursion (λ (e : Entry). length old.parents.items < e.depth) passed
  pub stands : Stands new kinds bytes rest
