-- What is right for the items of a text, and for an input.
use Rattle.std.proofs.Common.{◌≡◌, ◌⊎◌, ℕ, ◌+◌, ◌-◌, ◌<◌, ◌≤◌, List, ◌++◌, length, map, Option, None, Some, Result}
use Rattle.std.proofs.Common.{Ok, Err}
use Rattle.std.proofs.Common.{IfOk, ap, sym, ◌∙◌, subst, arith, inl, inr, length-append, length-take, drop}
use Rattle.std.specs.List.{slice_range}
use Rattle.std.specs.declared.alloc.Global.{Global}
use Rattle.std.specs.Option.{IfNone, IfSome}
use Rattle.std.proofs.Common.{Vec}
use Rattle.std.proofs.lemmas.List.{length-map}
use Rattle.std.specs.Io.KnownBytes.{Consumes, IsAtEnd}
use Rattle.xdr_types.specs.Tree.{Tree}
use Rattle.xdr_types.specs.Spelling.{bytes_of}
use Rattle.xdr_types.specs.declared.kind.KindId.{KindId}
use Rattle.xdr_json.specs.Text.{IsSpelling, SpellsNone}
use Rattle.xdr_json_reader.specs.Reasons.{Tells}
use Rattle.xdr_json_reader.specs.declared.fault.JsonReason.{JsonReason}
use Rattle.xdr_json_reader.specs.declared.fault.JsonReason.TheVariants.{NoMemory}
use Rattle.oncrpc_answers.specs.declared.failure.Failure.{Failure}
use Rattle.oncrpc_encode.specs.Arguments.{IsRightEach, IsRightEachFor, RefusesFirst, RefusesItem, SoughtEach, item_text}
use Rattle.oncrpc_encode.specs.Arguments.{places_of, sought_at}
use Rattle.oncrpc_encode.specs.Arrays.{AreItems}
use Rattle.oncrpc_encode.specs.Encoding.{IsEncoding, Sought, most_bytes}
use Rattle.oncrpc_encode.specs.Private.Each.{AreRight, IsRightItem}
use Rattle.oncrpc_encode.specs.Private.Refused.{IsRefusedFor}
use Rattle.oncrpc_encode.specs.declared.arguments.Arguments.{Arguments}
use Rattle.oncrpc_encode.specs.declared.arguments.Arguments.TheVariants as arguments
use Rattle.oncrpc_encode.specs.declared.encoded.Encoded.TheVariants as encoded
use Rattle.oncrpc_encode.specs.declared.item.Item.{Item}
use Rattle.oncrpc_encode.specs.declared.refusal.Refusal.{Refusal}
use Rattle.oncrpc_encode.specs.declared.refusal.Refusal.TheVariants as refusal
use Rattle.oncrpc_encode.proofs.Inside.{counted}
use Rattle.oncrpc_encode.proofs.Reading.{all_read}

-- the bytes of the value that an item spells alone
pub item_encoded : (s : Sought) (text : List ℕ) (v : Tree) (bytes : List ℕ) → IsSpelling s.kinds s.place s.limits text v
    → ((t : Tree) → IsSpelling s.kinds s.place s.limits text t → t ≡ v)
    → bytes ≡ bytes_of s.kinds s.place v → IsEncoding s text bytes
item_encoded s text v bytes spelled only are =
    record { value = v; spelled = spelled; only = only; bytes_are = are }

-- a fault of an item, by its place in the whole text
pub item_refused : (s : Sought) (text : List ℕ) (i : Item) (why : JsonReason) (at : ℕ) (r : Refusal)
    → i.begin + at ≤ i.end → (why ≡ NoMemory) ⊎ SpellsNone s.kinds s.place s.limits (item_text text i)
    → Tells s.kinds s.place s.limits (item_text text i) why → IsRefusedFor text why (i.begin + at) r
    → IsRightItem s text i (encoded.Refused r)
item_refused s text i why at (refusal.At w line column) inside none tells h = elim none [
  | inl is ↦ absurd (h.1 is)
  | inr spells ↦ record {
    spells = spells;
    memory = λ is. h.1 (sym h.0 ∙ is);
    tells = subst (λ (v : JsonReason). Tells s.kinds s.place s.limits (item_text text i) v) (sym h.0) tells;
    at = i.begin + at;
    begins = omega arith;
    ends = inside;
    placed = h.2;
  }
]
item_refused s text i why at refusal.TooLong inside none tells h = absurd h

-- what is right for the first item that is refused is right for all
pub items_refused : (s : SoughtEach) (text : List ℕ) (items : List Item) (place : ℕ) (i : Item) (r : Refusal)
    → ((why : JsonReason) (line column : ℕ) → RefusesItem (sought_at s place) text i why line column
    → RefusesFirst s text why line column s.places items)
    → IsRightItem (sought_at s place) text i (encoded.Refused r) → AreRight s text items (arguments.Refused r)
items_refused s text items place i (refusal.At why line column) first right = first why line column right
items_refused s text items place i refusal.TooLong first right = right

pub length-places : (kinds : List KindId) → length (places_of kinds) ≡ length kinds
length-places kinds = length-map kinds (λ (k : KindId). k.place)

module _ (s : SoughtEach) (text : List ℕ) (short : length text ≤ most_bytes s.limits) where
  -- what is right for the items is right for the text that has them
  right_each : (items : List Item) → AreItems text (length s.places) items → (e : Arguments)
      → AreRight s text items e → IsRightEach s text e
  right_each items are (arguments.Bytes v) right =
      record { short = short; items = items; are_items = are; right = right }
  right_each items are (arguments.Refused (refusal.At why line column)) right =
      record { short = short; items = items; are_items = are; right = right }
  right_each items are (arguments.Refused refusal.TooLong) right = absurd right
  right_each items are arguments.Unlisted right = absurd right

  pub answer_right : (items : List Item) → AreItems text (length s.places) items → (r : Result Arguments Failure)
      → IfOk r (λ e. AreRight s text items e) → IfOk r (λ e. IsRightEach s text e)
  answer_right items are (Ok e) right = right_each items are e right
  answer_right items are (Err f) right = tt

each_read : (s : SoughtEach) (left left' : Option (List ℕ)) (bytes : List ℕ) (e : Arguments)
    → Consumes left left' bytes → IsAtEnd left' → IsRightEach s bytes e → IsRightEachFor s left e
each_read s None left' bytes e read end right = tt
each_read s (Some text) None bytes e read end right = absurd read
each_read s (Some text) (Some rest) bytes e read end right =
    subst (λ (x : List ℕ). IsRightEach s x e) (all_read text rest bytes read end) right

-- what is right for the bytes that were read is right for the input
pub answer_each : (s : SoughtEach) (left left' : Option (List ℕ)) (bytes : List ℕ) (r : Result Arguments Failure)
    → Consumes left left' bytes → IsAtEnd left' → IfOk r (λ e. IsRightEach s bytes e)
    → IfOk r (λ e. IsRightEachFor s left e)
answer_each s left left' bytes (Ok e) read end right = each_read s left left' bytes e read end right
answer_each s left left' bytes (Err f) read end right = tt

-- an input with more bytes than a text may have is too long
pub too_long_each : (s : SoughtEach) (left left' : Option (List ℕ)) (bytes : List ℕ) → Consumes left left' bytes
    → most_bytes s.limits < length bytes → IsRightEachFor s left (arguments.Refused refusal.TooLong)
too_long_each s None left' bytes read long = tt
too_long_each s (Some text) None bytes read long = absurd read
too_long_each s (Some text) (Some rest) bytes read long =
    let counts : length text ≡ length bytes + length rest = ap length read ∙ length-append bytes rest in
    omega arith

-- an item has no more bytes than its place
pub item_short : (text : List ℕ) (begin end : ℕ) → length (slice_range text begin end) ≤ end - begin
item_short text begin end = omega (arith, length-take (end - begin) (drop begin text))

-- a text that is no array of so many items
pub unlisted : (text : List ℕ) (kinds : List KindId) (o : Option (Vec Item Global)) → o ≡ None
    → IfNone o ((items : List Item) → AreItems text (length kinds) items → ⊥)
    → (items : List Item) → AreItems text (length (places_of kinds)) items → ⊥
unlisted text kinds None is none items are =
    none items (subst (λ (n : ℕ). AreItems text n items) (length-places kinds) are)
unlisted text kinds (Some v) is none items are = cc

-- so many items
pub listed : (text : List ℕ) (kinds : List KindId) (o : Option (Vec Item Global)) (v : Vec Item Global) → o ≡ Some v
    → IfSome o (λ w. AreItems text (length kinds) w.items) → length v.items ≡ length kinds
listed text kinds None v is found = cc
listed text kinds (Some w) v is found =
    let same : w ≡ v = cc in
    subst (λ (x : Vec Item Global). length x.items ≡ length kinds) same (counted text (length kinds) w.items found)
