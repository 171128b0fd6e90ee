-- What the items of a text stand for, whatever the rest of it is.
use Rattle.std.specs.Prelude.{ℕ, List}
use Rattle.oncrpc_encode.specs.Arguments.{AreEncodings, RefusesFirst, RefusesItem, SoughtEach, item_text}
use Rattle.oncrpc_encode.specs.Encoding.{IsEncoding, Sought}
use Rattle.oncrpc_encode.specs.declared.arguments.Arguments.{Arguments}
use Rattle.oncrpc_encode.specs.declared.arguments.Arguments.TheVariants as arguments
use Rattle.oncrpc_encode.specs.declared.encoded.Encoded.{Encoded}
use Rattle.oncrpc_encode.specs.declared.encoded.Encoded.TheVariants as encoded
use Rattle.oncrpc_encode.specs.declared.item.Item.{Item}
use Rattle.oncrpc_encode.specs.declared.refusal.Refusal.TheVariants as refusal

-- this is right for an item
abbrev pub IsRightItem : Sought → (text : List ℕ) → Item → Encoded → Type 0
IsRightItem s text i (encoded.Bytes v) = IsEncoding s (item_text text i) v.items
IsRightItem s text i (encoded.Refused (refusal.At why line column)) = RefusesItem s text i why line column
IsRightItem s text i (encoded.Refused refusal.TooLong) = ⊥

-- and this for all of them
abbrev pub AreRight : SoughtEach → (text : List ℕ) → List Item → Arguments → Type 0
AreRight s text items (arguments.Bytes v) = AreEncodings s text s.places items v.items
AreRight s text items (arguments.Refused (refusal.At why line column)) =
    RefusesFirst s text why line column s.places items
AreRight s text items (arguments.Refused refusal.TooLong) = ⊥
AreRight s text items arguments.Unlisted = ⊥
