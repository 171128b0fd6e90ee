-- A value of XDR as a finite tree: what it is, and not where it lies in memory (RFC 4506 section 4).
use Rattle.std.specs.Prelude.{ℕ, ◌+◌, ℤ, Bool, List, [], ◌∷◌, max}

-- what a node shows by itself, its parts left out: one form for each kind of value (RFC 4506 sections 4.1 to 4.19)
pub data Head : Type 0 where
  int : ℤ → Head
  unsigned : ℕ → Head
  hyper : ℤ → Head
  unsigned_hyper : ℕ → Head
  boolean : Bool → Head
  numbered : ℤ → Head
  bytes : (content : List ℕ) → Head
  items : (count : ℕ) → Head
  fields : Head
  tag : (number : ℤ) → Head
  present : Head
  absent : Head
  nothing : Head

-- values one after another: the head of the first and its parts, and then the rest
pub data Values : Type 0 where
  none : Values
  node : Head → (parts rest : Values) → Values

-- a value: its head and its parts
abbrev pub Tree : Type 0
Tree = Head × Values

-- values one after another, of a list of them
abbrev pub from_list : List Tree → Values
from_list [] = none
from_list (t ∷ ts) = node t.0 t.1 (from_list ts)

-- how many levels lie in values, and in one value
abbrev pub depth_of : Values → ℕ
depth_of none = 0
depth_of (node h ps rest) = max (depth_of rest) (depth_of ps + 1)

-- the depth of a value, whose root has depth 1
abbrev pub depth : Tree → ℕ
depth t = depth_of t.1 + 1
