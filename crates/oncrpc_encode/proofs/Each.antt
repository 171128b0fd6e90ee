-- Items that stand for values, one behind another.
use Rattle.std.proofs.Common.{◌≡◌, ℕ, ◌+◌, ◌<◌, ◌≤◌, Bool, true, List, [], ◌∷◌, ◌++◌, length, drop, map, refl, ap, sym}
use Rattle.std.proofs.Common.{◌∙◌, subst, append_assoc, append-nil, suc, zero, arith, length-append, length-drop}
use Rattle.std.proofs.Common.{get_or}
use Rattle.std.specs.List.{AllByRecursion}
use Rattle.std.proofs.Math.Seq.{drop-length, drop-nil}
use Rattle.xdr_types.specs.declared.kind.KindId.{KindId}
use Rattle.xdr_json_reader.specs.declared.fault.JsonReason.{JsonReason}
use Rattle.oncrpc_encode.specs.Arguments.{AreEncodings, RefusesFirst, RefusesItem, SoughtEach, item_text, places_of}
use Rattle.oncrpc_encode.specs.Arguments.{sought_at}
use Rattle.oncrpc_encode.specs.Encoding.{IsEncoding}
use Rattle.oncrpc_encode.specs.declared.item.Item.{Item}

-- what holds of each holds of one
pub at_all : {X : Type 0} (P : X → Type 0) (xs : List X) (n : ℕ) (d : X) → AllByRecursion P xs → n < length xs
    → P (get_or xs n d)
at_all P [] n d all below = absurd (omega (arith, below))
at_all P (x ∷ xs) zero d all below = all.0
at_all P (x ∷ xs) (suc n) d all below = at_all P xs n d all.1 (omega (arith, below))

module _ (s : SoughtEach) (text : List ℕ) (kinds : List KindId) (items : List Item) where
  -- what is told of the rest is told of all, behind these bytes
  pub record Tells (number : ℕ) (bytes : List ℕ) : Type 0 where
    pub encoded : (rest : List ℕ) → AreEncodings s text (places_of (drop number kinds)) (drop number items) rest
        → AreEncodings s text (places_of kinds) items (bytes ++ rest)
    pub refused : (why : JsonReason) (line column : ℕ)
        → RefusesFirst s text why line column (places_of (drop number kinds)) (drop number items)
        → RefusesFirst s text why line column (places_of kinds) items

  pub tells_first : Tells 0 []
  tells_first = record { encoded = λ rest are. are; refused = λ why line column first. first }

  module _ (number : ℕ) (bytes : List ℕ) (told : Tells number bytes) (k : KindId) (i : Item)
      (kind : drop number kinds ≡ k ∷ drop (number + 1) kinds)
      (item : drop number items ≡ i ∷ drop (number + 1) items) where
    placed : places_of (drop number kinds) ≡ k.place ∷ places_of (drop (number + 1) kinds)
    placed = ap places_of kind

    -- one more value
    pub tells_more : (own : List ℕ) → IsEncoding (sought_at s k.place) (item_text text i) own
        → Tells (number + 1) (bytes ++ own)
    tells_more own is = record {
      encoded = λ rest are.
          let more = AreEncodings.more k.place (places_of (drop (number + 1) kinds)) i (drop (number + 1) items) own
          rest is are in
          let here = subst (λ (z : List Item). AreEncodings s text (places_of (drop number kinds)) z (own ++ rest))
          (sym item)
          (subst (λ (z : List ℕ). AreEncodings s text z (i ∷ drop (number + 1) items) (own ++ rest)) (sym placed) more)
          in
          subst (λ (z : List ℕ). AreEncodings s text (places_of kinds) items z) (sym (append_assoc bytes own rest))
          (told.encoded (own ++ rest) here);
      refused = λ why line column first.
          let later = RefusesFirst.later k.place (places_of (drop (number + 1) kinds)) i (drop (number + 1) items) own
          is first in
          told.refused why line column
          (subst (λ (z : List Item). RefusesFirst s text why line column (places_of (drop number kinds)) z) (sym item)
          (subst (λ (z : List ℕ). RefusesFirst s text why line column z (i ∷ drop (number + 1) items)) (sym placed)
          later));
    }

    -- one that is refused
    pub tells_refused : (why : JsonReason) (line column : ℕ) → RefusesItem (sought_at s k.place) text i why line column
        → RefusesFirst s text why line column (places_of kinds) items
    tells_refused why line column is =
        let here = RefusesFirst.here k.place (places_of (drop (number + 1) kinds)) i (drop (number + 1) items) is in
        told.refused why line column
        (subst (λ (z : List Item). RefusesFirst s text why line column (places_of (drop number kinds)) z) (sym item)
        (subst (λ (z : List ℕ). RefusesFirst s text why line column z (i ∷ drop (number + 1) items)) (sym placed)
        here))

  -- all of them
  pub tells_all : (bytes : List ℕ) → Tells (length kinds) bytes → length items ≡ length kinds
      → AreEncodings s text (places_of kinds) items bytes
  tells_all bytes told same =
      let no_kinds : places_of (drop (length kinds) kinds) ≡ [] = ap places_of (drop-length kinds) in
      let no_items : drop (length kinds) items ≡ [] =
      ap (λ (n : ℕ). drop n items) (sym same) ∙ drop-length items in
      let none = subst (λ (z : List Item). AreEncodings s text (places_of (drop (length kinds) kinds)) z [])
      (sym no_items)
      (subst (λ (z : List ℕ). AreEncodings s text z [] []) (sym no_kinds) AreEncodings.none) in
      subst (λ (z : List ℕ). AreEncodings s text (places_of kinds) items z) (append-nil bytes) (told.encoded [] none)
