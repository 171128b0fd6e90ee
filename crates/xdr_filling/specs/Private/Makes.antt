-- What an item makes of the part that is due, as the code does it.
use Rattle.std.specs.Prelude.{◌≡◌, ◌^◌, ◌≤◌, ℕ, ℤ, Bool, true, false, List, [], ◌∷◌, Option, Some, None}
use Rattle.std.specs.List.{AllByRecursion}
use Rattle.xdr_types.specs.Kinds.{KindView, Part, kind_at}
use Rattle.xdr_types.specs.KindViews.{kind_view}
use Rattle.xdr_types.specs.Tree.{Head}
use Rattle.xdr_types.specs.Fits.{is_legal, is_signed, is_unsigned, parts}
use Rattle.xdr_types.specs.Spelling.{own}
use Rattle.xdr_types.specs.declared.kind.Kind.{Kind}
use Rattle.xdr_types.specs.declared.kind.KindId.{KindId}
use Rattle.xdr_stream.specs.Frames.{left_of, Begins}
use Rattle.xdr_stream.specs.declared.machine.frame.Frame.{Frame}
use Rattle.xdr_stream.specs.declared.machine.frame.Frame.TheVariants.{Items}
use Rattle.xdr_writer.specs.Items.{ItemView, items}
use Rattle.xdr_writer.specs.ItemsOf.{own_items}
use Rattle.xdr_writer.specs.Represents.{word_kind}
use Rattle.xdr_filling.specs.Holes.{Goes}
use Rattle.xdr_filling.specs.Filled.{holes_of, spelled_bytes}
use Rattle.xdr_filling.specs.declared.filling.Filling.{Filling}
use Rattle.xdr_filling.specs.declared.made.Made.{Made}
use Rattle.xdr_filling.specs.declared.numbers.Leaf.{Leaf}
use Rattle.xdr_filling.specs.declared.numbers.Leaf.TheVariants as leaf
use Rattle.xdr_filling.specs.declared.runs.Run.{Run}

-- a number has one unit, signed or not
abbrev pub is_unit : (signed : Bool) → ℤ → Bool
is_unit true z = is_signed (2 ^ 31) z
is_unit false z = is_unsigned (2 ^ 32) z

-- a node of the kind with these items, bytes and parts
pub record IsNode (kinds : List KindView) (kind : KindView) (is : List ItemView) (bytes : List ℕ) (ps : List Part)
    : Type 0 where
  pub head : Head
  pub legal : is_legal kinds kind head ≡ true
  pub told : items (own_items kind head) ≡ is
  pub spelled : own kind head ≡ bytes
  pub inside : parts kind head ≡ ps

-- the bytes of a number
abbrev pub leaf_bytes : Leaf → List ℕ
leaf_bytes (leaf.Unit bytes) = bytes
leaf_bytes (leaf.Wide bytes) = bytes

abbrev pub inside_of : Option Frame → List Part
inside_of None = []
inside_of (Some f) = left_of f

-- the item makes this node of the kind
abbrev pub Makes : List KindView → KindView → ItemView → Made → Type 0
Makes kinds kind i m = IsNode kinds kind (i ∷ []) (spelled_bytes m.bytes) (inside_of m.inside)

-- with these items and bytes the one filling becomes the other, whatever the kinds of its schema
abbrev pub Moves : Filling → Filling → (kinds : List KindView) → List ItemView → (bytes : List ℕ) → Type 0
Moves a b kinds is bytes = Goes kinds (holes_of a) (holes_of b) is bytes

-- a part of this kind comes next
pub record IsDue (f : Filling) (id : KindId) (kind : Kind) : Type 0 where
  pub begins : Begins (left_of f.work.frame) id.place
  pub kind_is : kind_view kind ≡ kind_at f.schema.now.kinds id.place

-- each number has one unit, signed or not
abbrev pub AreUnits : (signed : Bool) → List ℤ → Type 0
AreUnits signed zs = AllByRecursion (λ (z : ℤ). is_unit signed z ≡ true) zs

-- items of an array of integers of one unit come next, as a run tells it, and their level is allowed
pub record IsRun (f : Filling) (r : Run) : Type 0 where
  pub frame : f.work.frame ≡ Items r.item r.left
  pub kind : kind_at f.schema.now.kinds r.item.place ≡ word_kind r.signed
  pub room : 1 ≤ f.work.room
