-- Where a cursor stands in the bytes of a value.
use Rattle.std.specs.Prelude.{◌≡◌, ℕ, ◌+◌, ◌≤◌, ◌<◌, ◌^◌, List, ◌∷◌, ◌++◌, Option, None, Some, length, drop}
use Rattle.std.specs.List.{AllByRecursion}
use Rattle.xdr_types.specs.Kinds.{KindView, Part}
use Rattle.xdr_types.specs.Layout.{Entry, content}
use Rattle.xdr_laws.specs.Owed.{Rest, Completes}
use Rattle.xdr_stream.specs.Frames.{dues}
use Rattle.xdr_cursor.specs.Frames.{stack_in}
use Rattle.xdr_cursor.specs.declared.cursor.Cursor.{Cursor}

-- From a place on come so many bytes of content of the part that comes next, and then these entries (RFC 4506 sections
-- 4.10, 4.11).
pub record OwesContent (kinds : List KindView) (at : ℕ) (stack : List (List Part)) (size : ℕ) (bytes : List ℕ)
    (es : List Entry) : Type 0 where
  pub part : Part
  pub parts : List Part
  pub outer : List (List Part)
  pub stack_is : stack ≡ (part ∷ parts) ∷ outer
  pub left : List Entry
  pub joined : es ≡ content at (length outer + 1) part size ++ left
  pub owes : Completes kinds at (Rest size ∷ dues (parts ∷ outer)) (drop at bytes) left

-- from a place on these entries come, and end the bytes: content whose length has gone by, and the parts that the nodes
-- at work have not begun
abbrev pub Owes : List KindView → (at : ℕ) → (stack : List (List Part)) → Option ℕ → (bytes : List ℕ) → List Entry
    → Type 0
Owes kinds at stack None bytes es = Completes kinds at (dues stack) (drop at bytes) es
Owes kinds at stack (Some size) bytes es = OwesContent kinds at stack size bytes es

-- These parts of a value are still to come, whose bytes these are, all of them.
pub record Stands (c : Cursor) (kinds : List KindView) (bytes : List ℕ) (es : List Entry) : Type 0 where
  pub owes : Owes kinds c.at (stack_in kinds c.work c.parents.items) c.content bytes es
  pub within : c.at ≤ length bytes
  pub low : AllByRecursion (λ (e : Entry). e.depth ≤ 4096) es
  pub few : c.steps + length es < 2 ^ 64
