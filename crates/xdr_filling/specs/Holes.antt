-- Parts of a value that are not filled, and what values in them make of the whole.
use Rattle.std.specs.Prelude.{◌≡◌, ◌≤◌, ℕ, List, [], ◌∷◌, ◌++◌, IsTrue, ⊤}
use Rattle.xdr_types.specs.Kinds.{KindView, Part}
use Rattle.xdr_types.specs.Tree.{Values, depth_of}
use Rattle.xdr_types.specs.Fits.{fit}
use Rattle.xdr_types.specs.Spelling.{spelling}
use Rattle.xdr_writer.specs.Items.{ItemView, items}
use Rattle.xdr_writer.specs.ItemsOf.{node_items_in}

-- parts one after another, and how many levels their values may have
pub record Hole : Type 0 where
  pub parts : List Part
  pub room : ℕ

abbrev pub hole : List Part → (room : ℕ) → Hole
hole ps room = record { parts = ps; room = room }

-- one value for each part of each hole, with no more levels
abbrev pub Fill : List KindView → List Hole → List Values → Type 0
Fill kinds [] [] = ⊤
Fill kinds (h ∷ hs) (v ∷ vs) = IsTrue (fit kinds h.parts v) × (depth_of v ≤ h.room) × Fill kinds hs vs
Fill kinds _ _ = ⊥

-- the items of these values (RFC 4506 section 4)
abbrev pub items_by : List KindView → List Hole → List Values → List ItemView
items_by kinds (h ∷ hs) (v ∷ vs) = items (node_items_in kinds h.parts v) ++ items_by kinds hs vs
items_by kinds _ _ = []

-- their bytes
abbrev pub bytes_by : List KindView → List Hole → List Values → List ℕ
bytes_by kinds (h ∷ hs) (v ∷ vs) = spelling kinds h.parts v ++ bytes_by kinds hs vs
bytes_by kinds _ _ = []

-- These values fill the first holes; they have the items and the bytes, and then those of the values of the others.
pub record Filled (kinds : List KindView) (hs rest : List Hole) (is : List ItemView) (bytes : List ℕ)
    (vs : List Values) : Type 0 where
  pub values : List Values
  pub fill : Fill kinds hs values
  pub told : items_by kinds hs values ≡ is ++ items_by kinds rest vs
  pub spelled : bytes_by kinds hs values ≡ bytes ++ bytes_by kinds rest vs

-- The holes are filled by these items, whose bytes these are, and then by whatever fills the rest.
abbrev pub Goes : List KindView → (hs rest : List Hole) → (is : List ItemView) → (bytes : List ℕ) → Type 0
Goes kinds hs rest is bytes = (vs : List Values) → Fill kinds rest vs → Filled kinds hs rest is bytes vs
