-- The items that the parts of a value tell, by the bytes of each: the way back from a list of parts (RFC 4506 section
-- 4).
use Rattle.std.specs.Prelude.{◌≡◌, ℕ, ◌<◌, ◌^◌, pos, Bool, true, false, nat_lt, List, [], ◌∷◌, length, take, drop}
use Rattle.xdr_units.specs.Numbers.{num4, number_of, padded}
use Rattle.xdr_types.specs.Kinds as xdr
use Rattle.xdr_types.specs.Kinds.{KindView, kind_at}
use Rattle.xdr_types.specs.Tree.{Tree}
use Rattle.xdr_types.specs.Fits.{Fits}
use Rattle.xdr_types.specs.Spelling.{bytes_of}
use Rattle.xdr_types.specs.Layout.{Entry, Role, of_number, of_flag, of_length, of_content, of_group, entries}
use Rattle.xdr_writer.specs.Items.{ItemView, number, flag, count, content, spelled_as}
use Rattle.xdr_writer.specs.ItemsOf.{items_of}
use Rattle.xdr_writer.specs.Forms.{IsInRange}

-- whether a part of this role, of a node of this kind, has an item: a structure has none, nor has the length of
-- content, nor content of fixed size without bytes
abbrev pub has_item : KindView → Role → Bool
has_item kind of_number = true
has_item kind of_flag = true
has_item (xdr.up_to item max) of_length = true
has_item kind of_length = false
has_item (xdr.opaque size) (of_content n) = nat_lt 0 n
has_item kind (of_content n) = true
has_item kind of_group = false

-- the bytes of a part
abbrev pub part_bytes : (bytes : List ℕ) → Entry → List ℕ
part_bytes bytes e = take e.size (drop e.at bytes)

-- the part with these bytes has this item, which has the bytes, content without its length
abbrev pub IsToldBy : List KindView → KindView → (part : List ℕ) → Role → ItemView → Type 0
IsToldBy kinds kind part role (number z) =
    (role ≡ of_number) × (part ≡ spelled_as kind (number z)) × IsInRange kinds kind (number z)
IsToldBy kinds kind part role (flag b) = (role ≡ of_flag) × (part ≡ num4 (number_of b))
IsToldBy kinds kind part role (count n) = (role ≡ of_length) × (part ≡ num4 (pos n)) × (n < 2 ^ 32)
IsToldBy kinds kind part role (content bs) = (role ≡ of_content (length bs)) × (part ≡ padded bs)

-- this holds of the first item where a part has one, and of the others this
abbrev pub IsFirst : (has : Bool) → (Is : ItemView → Type 0) → (Others : List ItemView → Type 0) → List ItemView
    → Type 0
IsFirst true Is Others [] = ⊥
IsFirst true Is Others (i ∷ is) = Is i × Others is
IsFirst false Is Others is = Others is

-- the items of parts, one after another
abbrev pub AreToldBy : List KindView → (bytes : List ℕ) → List Entry → List ItemView → Type 0
AreToldBy kinds bytes [] is = is ≡ []
AreToldBy kinds bytes (e ∷ es) is =
    IsFirst (has_item (kind_at kinds e.kind) e.role)
    (λ i. IsToldBy kinds (kind_at kinds e.kind) (part_bytes bytes e) e.role i)
    (λ more. AreToldBy kinds bytes es more) is

-- The parts of a value tell its items, and no others.
pub record PartsTellItems (kinds : List KindView) : Type 0 where
  pub items : (kind : ℕ) (v : Tree) → Fits kinds kind v
      → AreToldBy kinds (bytes_of kinds kind v) (entries kinds kind v) (items_of kinds kind v)
  pub only : (kind : ℕ) (v : Tree) (is : List ItemView) → Fits kinds kind v
      → AreToldBy kinds (bytes_of kinds kind v) (entries kinds kind v) is → is ≡ items_of kinds kind v
