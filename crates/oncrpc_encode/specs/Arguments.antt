-- What a text of several arguments is to a call: an array with a value of each kind (RFC 8259 section 5, RFC 5531
-- section 12.3).
use Rattle.std.specs.Prelude.{◌≡◌, ◌≢◌, ℕ, ◌≤◌, ◌<◌, List, [], ◌∷◌, ◌++◌, length, map, slice_range, Option, None, Some}
use Rattle.std.specs.Prelude.{Bool, nat_lt, ⊤}
use Rattle.std.specs.List.{list_all}
use Rattle.xdr_types.specs.Kinds.{KindView}
use Rattle.xdr_types.specs.Within.{Bounds}
use Rattle.xdr_types.specs.declared.kind.KindId.{KindId}
use Rattle.xdr_json.specs.Text.{SpellsNone}
use Rattle.xdr_json_reader.specs.Reasons.{Tells}
use Rattle.xdr_json_reader.specs.declared.fault.JsonReason.{JsonReason}
use Rattle.xdr_json_reader.specs.declared.fault.JsonReason.TheVariants.{NoMemory}
use Rattle.oncrpc_encode.specs.Arrays.{AreItems}
use Rattle.oncrpc_encode.specs.Encoding.{IsAt, IsEncoding, Sought, most_bytes}
use Rattle.oncrpc_encode.specs.declared.arguments.Arguments.{Arguments}
use Rattle.oncrpc_encode.specs.declared.arguments.Arguments.TheVariants as arguments
use Rattle.oncrpc_encode.specs.declared.item.Item.{Item}
use Rattle.oncrpc_encode.specs.declared.refusal.Refusal.TheVariants as refusal

-- what is looked for in an array: a value of the kind at each of these places, each within the limits
pub record SoughtEach : Type 0 where
  pub kinds : List KindView
  pub places : List ℕ
  pub limits : Bounds

abbrev pub places_of : List KindId → List ℕ
places_of ks = map (λ k. k.place) ks

-- whether a schema has each of these kinds
abbrev pub knows_each : (kinds : List KindView) → List KindId → Bool
knows_each kinds ks = list_all (λ k. nat_lt k.place (length kinds)) ks

-- one of them
abbrev pub sought_at : SoughtEach → (place : ℕ) → Sought
sought_at s place = record { kinds = s.kinds; place = place; limits = s.limits }

-- the text of an item
abbrev pub item_text : (text : List ℕ) → Item → List ℕ
item_text text i = slice_range text i.begin i.end

-- Each item spells a value of its kind, and the bytes are those of the values, one behind another (RFC 4506 section 4).
pub data AreEncodings (s : SoughtEach) (text : List ℕ) : List ℕ → List Item → List ℕ → Type 0 where
  none : AreEncodings s text [] [] []
  more : (place : ℕ) (places : List ℕ) (i : Item) (items : List Item) (own bytes : List ℕ)
      → IsEncoding (sought_at s place) (item_text text i) own → AreEncodings s text places items bytes
      → AreEncodings s text (place ∷ places) (i ∷ items) (own ++ bytes)

-- The item spells no value within the limits, the reason is right of it, and the line and the column are those, in the
-- whole text, of a place in it or of its end.
pub record RefusesItem (s : Sought) (text : List ℕ) (i : Item) (why : JsonReason) (line column : ℕ) : Type 0 where
  pub spells : SpellsNone s.kinds s.place s.limits (item_text text i)
  pub memory : why ≢ NoMemory
  pub tells : Tells s.kinds s.place s.limits (item_text text i) why
  pub at : ℕ
  pub begins : i.begin ≤ at
  pub ends : at ≤ i.end
  pub placed : IsAt text at line column

-- So is the first item that spells none; those before it spell values of their kinds.
pub data RefusesFirst (s : SoughtEach) (text : List ℕ) (why : JsonReason) (line column : ℕ)
    : List ℕ → List Item → Type 0 where
  here : (place : ℕ) (places : List ℕ) (i : Item) (items : List Item)
      → RefusesItem (sought_at s place) text i why line column
      → RefusesFirst s text why line column (place ∷ places) (i ∷ items)
  later : (place : ℕ) (places : List ℕ) (i : Item) (items : List Item) (own : List ℕ)
      → IsEncoding (sought_at s place) (item_text text i) own
      → RefusesFirst s text why line column places items
      → RefusesFirst s text why line column (place ∷ places) (i ∷ items)

-- The text is an array of so many items, and this is right of them.
pub record OfItems (s : SoughtEach) (text : List ℕ) (Right : List Item → Type 0) : Type 0 where
  pub short : length text ≤ most_bytes s.limits
  pub items : List Item
  pub are_items : AreItems text (length s.places) items
  pub right : Right items

-- this is right for the text, whose length is judged first: the bytes of the values, a refusal of an item, or that it
-- is no array of so many
abbrev pub IsRightEach : SoughtEach → (text : List ℕ) → Arguments → Type 0
IsRightEach s text (arguments.Bytes v) = OfItems s text (λ items. AreEncodings s text s.places items v.items)
IsRightEach s text (arguments.Refused (refusal.At why line column)) =
    OfItems s text (λ items. RefusesFirst s text why line column s.places items)
IsRightEach s text (arguments.Refused refusal.TooLong) = most_bytes s.limits < length text
IsRightEach s text arguments.Unlisted =
    (length text ≤ most_bytes s.limits) × ((items : List Item) → AreItems text (length s.places) items → ⊥)

-- the same of an input, where its bytes are reported
abbrev pub IsRightEachFor : SoughtEach → Option (List ℕ) → Arguments → Type 0
IsRightEachFor s None e = ⊤
IsRightEachFor s (Some text) e = IsRightEach s text e
