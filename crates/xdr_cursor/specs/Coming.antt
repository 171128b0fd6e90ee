-- The parts of a value that a cursor has still before it.
use Rattle.std.specs.Prelude.{◌≡◌, ℕ, ◌≤◌, ◌<◌, List, [], ◌∷◌, ◌++◌, Option, None, Some, false, length, take, ⊤}
use Rattle.std.specs.List.{AllByRecursion}
use Rattle.xdr_types.specs.Kinds.{KindView}
use Rattle.xdr_types.specs.Layout.{Entry}
use Rattle.xdr_parts.specs.Lent.{entry_of, IsLentFrom}
use Rattle.xdr_parts.specs.declared.part.Lent.{Lent}
use Rattle.xdr_cursor.specs.Standing.{Stands}
use Rattle.xdr_cursor.specs.declared.cursor.Cursor.{Cursor}

-- These parts of the value that begins the input are still to come.
pub record Awaits (c : Cursor) (kinds : List KindView) (input : List ℕ) (es : List Entry) : Type 0 where
  pub there : c.used ≤ length input
  pub known : c.lost ≡ false
  pub stands : Stands c kinds (take c.used input) es

-- a part is lent from the input, and a step has been gone
abbrev pub IsStep : (old new : Cursor) → (input : List ℕ) → Lent → Type 0
IsStep old new input l = IsLentFrom input l × (old.steps < new.steps)

-- of parts that were to come the first is handed out, and the others are still to come; none is handed out where none
-- was to come
abbrev pub HandsOut : Cursor → List KindView → (input : List ℕ) → List Entry → Option Lent → Type 0
HandsOut c kinds input es None = (es ≡ []) × Awaits c kinds input []
HandsOut c kinds input es (Some l) =
    (rest : List Entry) × (es ≡ entry_of l ∷ rest) × Awaits c kinds input rest

-- the first of these parts is that of a node with this name (RFC 4506 sections 4.14, 4.15)
abbrev pub BeginsNamed : (name : List ℕ) → List Entry → Type 0
BeginsNamed name [] = ⊥
BeginsNamed name (e ∷ es) = e.name ≡ name

-- Of parts that were to come some are passed over, all deeper than so much, and the others are still to come.
pub record Passes (c : Cursor) (kinds : List KindView) (input : List ℕ) (depth : ℕ) (es : List Entry) : Type 0 where
  pub passed : List Entry
  pub rest : List Entry
  pub joined : es ≡ passed ++ rest
  pub deeper : AllByRecursion (λ (e : Entry). depth < e.depth) passed
  pub awaits : Awaits c kinds input rest

-- the first of these parts, where there is any, is not deeper than so much
abbrev pub BeginsAbove : (depth : ℕ) → List Entry → Type 0
BeginsAbove depth [] = ⊤
BeginsAbove depth (e ∷ es) = e.depth ≤ depth

-- of parts that were to come those are passed over that are deeper than so much, up to the first that is not
abbrev pub Skips : Cursor → List KindView → (input : List ℕ) → (depth : ℕ) → List Entry → Type 0
Skips c kinds input depth es = (p : Passes c kinds input depth es) × BeginsAbove depth p.rest
