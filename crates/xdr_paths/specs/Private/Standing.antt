-- Where a node stands in the bytes of a value.
use Rattle.std.specs.Prelude.{◌≡◌, ℕ, ◌+◌, ◌≤◌, ◌<◌, List, [], ◌∷◌, ◌++◌, length, drop, IsTrue, Option, Some, None}
use Rattle.std.specs.Prelude.{replicate, slice_get}
use Rattle.std.specs.Prelude.{MatchOption, ⊤}
use Rattle.std.specs.List.{AllByRecursion}
use Rattle.xdr_types.specs.Kinds as xdr
use Rattle.xdr_types.specs.Kinds.{KindView, Part}
use Rattle.xdr_types.specs.Layout.{Entry}
use Rattle.xdr_types.specs.Tree as value
use Rattle.xdr_types.specs.Tree.{Values, depth_of}
use Rattle.xdr_types.specs.Fits.{fit, item_part}
use Rattle.xdr_types.specs.Spelling.{spelling}
use Rattle.xdr_types.specs.Within.{Bounds}
use Rattle.xdr_paths.specs.Nodes.{Node, Step, LeadTo, nodes}
use Rattle.xdr_parts.specs.Lent.{entry_of, IsLentFrom}
use Rattle.xdr_parts.specs.declared.part.Lent.{Lent}
use Rattle.xdr_paths.specs.Paths.{IsStep, IsPath, steps_text}
use Rattle.xdr_paths.specs.declared.spot.Spot.{Spot}

-- behind the place the bytes are those of one value for each part, and some more; the values are within the limits
pub record Spells (kinds : List KindView) (limits : Bounds) (bytes : List ℕ) (place depth : ℕ) (ps : List Part)
    (vs : Values) : Type 0 where
  pub fits : IsTrue (fit kinds ps vs)
  pub more : List ℕ
  pub spelled : drop place bytes ≡ spelling kinds ps vs ++ more
  pub within : place ≤ length bytes
  pub some : 0 < depth
  pub low : depth + depth_of vs ≤ limits.depth + 1
  pub small : length bytes ≤ limits.bytes

-- the node's bytes are there
abbrev pub Stands : List KindView → Bounds → (bytes : List ℕ) → Node → Type 0
Stands kinds limits bytes n =
    Spells kinds limits bytes n.place n.depth (n.part ∷ []) (value.node n.head n.inner value.none)

-- the spot is that of the node
pub record IsAt (s : Spot) (n : Node) : Type 0 where
  pub place : s.at ≡ n.place
  pub depth : s.depth ≡ n.depth
  pub kind : s.kind.place ≡ n.part.kind
  pub name : s.name.now ≡ n.part.name

-- a node of the kind has its bytes at a place
abbrev pub StandsAs : List KindView → Bounds → (bytes : List ℕ) → (kind at : ℕ) → Node → Type 0
StandsAs kinds limits bytes kind at n = Stands kinds limits bytes n × (n.place ≡ at) × (n.part.kind ≡ kind)

-- the node of a spot has its bytes there
abbrev pub StandsAt : List KindView → Bounds → (bytes : List ℕ) → Spot → Node → Type 0
StandsAt kinds limits bytes s n = IsAt s n × Stands kinds limits bytes n

-- what was found is the spot of this node, which is there; or there is no node
abbrev pub Finds : List KindView → Bounds → (bytes : List ℕ) → Option Spot → Option Node → Type 0
Finds kinds limits bytes found wanted =
    MatchOption found (wanted ≡ None)
    (λ (s : Spot). (m : Node) × (wanted ≡ Some m) × IsAt s m × Stands kinds limits bytes m)

-- what was found begins at this place, and is an item of the kind
abbrev pub IsItem : List KindView → Bounds → (bytes : List ℕ) → (item place depth : ℕ) → Node → Type 0
IsItem kinds limits bytes item place depth m =
    (m.place ≡ place) × (m.depth ≡ depth) × (m.part ≡ item_part item) × Stands kinds limits bytes m

-- the item with this index, of those that begin at a place, is one that begins at the other
abbrev pub ItemBegins : List KindView → Bounds → (bytes : List ℕ) → (item count at index place : ℕ) → Type 0
ItemBegins kinds limits bytes item count at index place =
    (depth : ℕ) (vs : Values) → Spells kinds limits bytes at depth (replicate count (item_part item)) vs
    → (m : Node) × (slice_get (nodes kinds at depth (replicate count (item_part item)) vs) index ≡ Some m)
    × IsItem kinds limits bytes item place depth m

-- some values of so many items begin at a place
abbrev pub HasItems : List KindView → Bounds → (bytes : List ℕ) → (item count at : ℕ) → Type 0
HasItems kinds limits bytes item count at =
    (depth : ℕ) × (vs : Values) × Spells kinds limits bytes at depth (replicate count (item_part item)) vs

-- the kind is a union whose discriminant has this kind (RFC 4506 section 4.15)
abbrev pub IsChoice : KindView → (tag : ℕ) → Type 0
IsChoice (xdr.choice tag arms other) place = tag ≡ place
IsChoice _ place = ⊥

-- the kind is no optional (RFC 4506 section 4.19)
abbrev pub IsPlain : KindView → Type 0
IsPlain (xdr.maybe item) = ⊥
IsPlain _ = ⊤

-- the steps with this text, each with its mark, lead from the node to the part
abbrev pub TextLeadsTo : List KindView → Node → (text : List ℕ) → Entry → Type 0
TextLeadsTo kinds n text e =
    (steps : List Step) × AllByRecursion IsStep steps × (text ≡ steps_text steps) × LeadTo kinds n steps e

-- the path with this text leads from the node to the part
abbrev pub PathLeadsTo : List KindView → Node → (text : List ℕ) → Entry → Type 0
PathLeadsTo kinds n text e = (steps : List Step) × IsPath text steps × LeadTo kinds n steps e

-- what was found is a part of which this holds, lent from the bytes; or there is none
abbrev pub HasPart : (bytes : List ℕ) → Option Lent → (Entry → Type 0) → Type 0
HasPart bytes found wanted =
    MatchOption found ((e : Entry) → wanted e → ⊥) (λ (l : Lent). wanted (entry_of l) × IsLentFrom bytes l)
