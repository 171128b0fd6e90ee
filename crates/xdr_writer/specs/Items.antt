-- The items of a value, which are put one after another, and their bytes (RFC 4506 sections 3 and 4).
use Rattle.std.specs.Prelude.{ℕ, ℤ, pos, Bool, List, [], ◌∷◌, ◌++◌, length}
use Rattle.xdr_units.specs.Numbers.{num4, num8, number_of, padded}
use Rattle.xdr_types.specs.Kinds as xdr
use Rattle.xdr_types.specs.Kinds.{KindView}
use Rattle.xdr_writer.specs.declared.item.Item.{Item}
use Rattle.xdr_writer.specs.declared.item.Item.TheVariants as put

-- an item without where it lies in memory
pub data ItemView : Type 0 where
  -- the number of an integer, a boolean, an enumeration or a discriminant (sections 4.1 to 4.5, 4.15)
  number : ℤ → ItemView
  -- whether an optional item is there (section 4.19)
  flag : Bool → ItemView
  -- how many items follow (section 4.13)
  count : ℕ → ItemView
  -- the bytes of an opaque or a string (sections 4.9 to 4.11)
  content : List ℕ → ItemView

-- an item as it is put
abbrev pub item_view : Item → ItemView
item_view (put.Number z) = number z
item_view (put.Flag b) = flag b
item_view (put.Count n) = count n
item_view (put.Content s) = content s.now

-- the bytes of an item of a node of this kind (RFC 4506 sections 3 and 4). A hyper integer has eight; content has its
-- length before it, save where its size is fixed, and the zeros after it
abbrev pub spelled_as : KindView → ItemView → List ℕ
spelled_as kind (flag b) = num4 (number_of b)
spelled_as kind (count n) = num4 (pos n)
spelled_as xdr.hyper (number z) = num8 z
spelled_as xdr.unsigned_hyper (number z) = num8 z
spelled_as kind (number z) = num4 z
spelled_as (xdr.opaque size) (content bs) = padded bs
spelled_as kind (content bs) = num4 (pos (length bs)) ++ padded bs

-- an item, and the kind of the node that it belongs to
pub record NodeItem : Type 0 where
  pub kind : KindView
  pub item : ItemView

abbrev pub of_node : KindView → ItemView → NodeItem
of_node kind item = record { kind = kind; item = item }

-- its bytes
abbrev pub spelled : NodeItem → List ℕ
spelled i = spelled_as i.kind i.item

-- the bytes of several, joined
abbrev pub all_spelled : List NodeItem → List ℕ
all_spelled [] = []
all_spelled (i ∷ is) = spelled i ++ all_spelled is

-- the items without the kinds of their nodes
abbrev pub items : List NodeItem → List ItemView
items [] = []
items (i ∷ is) = i.item ∷ items is
