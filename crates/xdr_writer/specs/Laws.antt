-- The laws of items: they are a value's encoding, they tell the value, and each value's are taken.
use Rattle.std.specs.Prelude.{◌≡◌, ◌↔◌, ℕ, List, [], ◌∷◌, ◌++◌}
use Rattle.xdr_types.specs.Kinds.{KindView}
use Rattle.xdr_types.specs.Tree.{Tree}
use Rattle.xdr_types.specs.Fits.{Fits}
use Rattle.xdr_types.specs.Spelling.{bytes_of}
use Rattle.xdr_types.specs.Within.{Bounds, FitsWithin}
use Rattle.xdr_writer.specs.Items.{ItemView, NodeItem, of_node, all_spelled, items}
use Rattle.xdr_writer.specs.ItemsOf.{node_items_of, items_of}
use Rattle.xdr_writer.specs.Answers.{Takes, IsKnown, HasNoValue, HasNoWhole}
use Rattle.xdr_writer.specs.declared.refusal.Why.{Why}
use Rattle.xdr_writer.specs.declared.refusal.Why.TheVariants.{NoMemory}
use Rattle.xdr_writer.specs.declared.item.Step.{Step}
use Rattle.xdr_writer.specs.declared.item.Step.TheVariants.{Done}

-- the bytes of a value's items, joined, are its encoding
abbrev pub ItemsJoin : List KindView → Type 0
ItemsJoin kinds = (kind : ℕ) (v : Tree) → Fits kinds kind v
    → all_spelled (node_items_of kinds kind v) ≡ bytes_of kinds kind v

-- two values of a kind with the same items are one
abbrev pub ItemsTellValue : List KindView → Type 0
ItemsTellValue kinds = (kind : ℕ) (v w : Tree) → Fits kinds kind v → Fits kinds kind w
    → items_of kinds kind v ≡ items_of kinds kind w → v ≡ w

-- What is answered to the item i of a value, behind those before it and with those after it. A refusal of it is for an
-- allocation failure, since another reason says that no value has it there. It makes the value whole exactly where it
-- is the last.
pub record IsTaken (kinds : List KindView) (kind : ℕ) (limits : Bounds) (is : List NodeItem) (i : ItemView)
    (after : List ItemView) : Type 0 where
  pub memory_alone : (why : Why) → (IsKnown why → HasNoValue kinds kind limits is i) → why ≡ NoMemory
  pub last : (node : KindView) (s : Step) → Takes kinds kind limits (is ++ of_node node i ∷ []) s
      → (s ≡ Done) ↔ (after ≡ [])

-- each item of each value within the limits is taken, and where none is left the end is not refused
abbrev pub ItemsAreTaken : List KindView → Type 0
ItemsAreTaken kinds = (kind : ℕ) (limits : Bounds) (v : Tree) → FitsWithin kinds kind limits v
    → ((is : List NodeItem) (i : ItemView) (after : List ItemView) → items_of kinds kind v ≡ items is ++ i ∷ after
    → IsTaken kinds kind limits is i after)
    × ((is : List NodeItem) → items_of kinds kind v ≡ items is → HasNoWhole kinds kind limits is → ⊥)
