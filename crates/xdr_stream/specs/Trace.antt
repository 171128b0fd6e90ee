-- What has been read so far: the nodes at work with their finished parts, and the content so far.
use Rattle.std.specs.Prelude.{ℕ, List, [], ◌∷◌, ⊤}
use Rattle.xdr_types.specs.Tree as value
use Rattle.xdr_types.specs.Tree.{Head, Tree}

-- a node at work: what it shows by itself, and its finished parts; the outermost stands around the root
pub record Level : Type 0 where
  pub head : Head
  pub done : List Tree

-- the nodes at work, the innermost first, and the content so far
pub record Trace : Type 0 where
  pub levels : List Level
  pub content : List ℕ

abbrev pub level : Head → List Tree → Level
level h done = record { head = h; done = done }

-- what was reported before any byte: what stands around the root has no part
abbrev pub at_start : Trace
at_start = record { levels = level value.nothing [] ∷ []; content = [] }

-- a node that may have parts
abbrev pub IsOpen : Head → Type 0
IsOpen value.fields = ⊤
IsOpen (value.items n) = ⊤
IsOpen (value.tag z) = ⊤
IsOpen value.present = ⊤
IsOpen _ = ⊥
