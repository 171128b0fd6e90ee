-- The items that are found are those of the array, and those of an array are found.
use Rattle.std.proofs.Common.{◌≡◌, ◌≢◌, ℕ, suc, zero, ◌+◌, ◌-◌, ◌<◌, ◌≤◌, Bool, true, false, nat_eq, List, [], ◌∷◌}
use Rattle.std.proofs.Common.{◌++◌}
use Rattle.std.proofs.Common.{length, drop, get_or, Option, None, Some, refl, ap, sym, ◌∙◌, subst, append_assoc, eq-eqb}
use Rattle.std.proofs.Common.{length-append, length-drop, append-nil, if◌then◌else◌, arith}
use Rattle.std.specs.List.{flat_map, list_all}
use Rattle.std.specs.Option.{option_map}
use Rattle.std.proofs.lemmas.Bool.Decides.{Decides-eqb}
use Rattle.std.proofs.lemmas.List.{get_or-drop, nil_from_length}
use Rattle.oncrpc_encode.specs.declared.item.Item.{Item}
use Rattle.oncrpc_encode.specs.Arrays.{AreItems, ArePieces, IsArray, IsPiece, Piece, is_space, places, text_of}
use Rattle.oncrpc_encode.specs.Private.Scanned.{ended, is_blank, item_at, items_behind, items_from, items_in, last_at}
use Rattle.oncrpc_encode.specs.Private.Scanned.{opened, past_spaces}
use Rattle.oncrpc_encode.proofs.OneItem.{IsItemAt, at_closing, behind_closing, item_found, item_made, item_of}
use Rattle.oncrpc_encode.proofs.Places.{cut_at, get_at, one_on}
use Rattle.oncrpc_encode.proofs.Spaces.{spaces, spaces_end}

-- what is left of a text is the rest of an array with these items
pub record IsRest (text : List ℕ) (at : ℕ) (first : Piece) (others : List Piece) : Type 0 where
  pub back : List ℕ
  pub behind : list_all is_space back ≡ true
  pub pieces : ArePieces (first ∷ others)
  pub joined : drop at text ≡ text_of first ++ flat_map (λ p. 44 ∷ text_of p) others ++ 93 ∷ back

-- so many items and one more are left, at these places
pub record AreLeft (text : List ℕ) (at more : ℕ) (items : List Item) : Type 0 where
  pub first : Piece
  pub others : List Piece
  pub rest : IsRest text at first others
  pub counted : more ≡ length others
  pub placed : items ≡ places at (first ∷ others)

-- where nothing but white space is left
blank_left : (text : List ℕ) (at : ℕ) → is_blank text at ≡ true → list_all is_space (drop at text) ≡ true
blank_left text at is =
    let s = spaces at (drop at text) in
    let whole : past_spaces at (drop at text) ≡ length text =
    (Decides-eqb (past_spaces at (drop at text)) (length text)).0 is in
    let long : length (drop at text) ≡ length s.space + length s.rest =
    ap length s.joined ∙ length-append s.space s.rest in
    let none : length s.rest ≡ 0 = omega (arith, whole, s.place, long, length-drop at text) in
    let all : drop at text ≡ s.space =
    s.joined ∙ ap (λ (z : List ℕ). s.space ++ z) (nil_from_length s.rest none) ∙ append-nil s.space in
    ap (list_all is_space) all ∙ s.blank

is_left : (text : List ℕ) (at : ℕ) (back : List ℕ) → at ≤ length text → drop at text ≡ back
    → list_all is_space back ≡ true → is_blank text at ≡ true
is_left text at back inside is blank =
    let end : past_spaces at (drop at text) ≡ at + length back =
    ap (past_spaces at) (is ∙ sym (append-nil back)) ∙ spaces_end at back [] blank refl in
    let long : length text - at ≡ length back = sym (length-drop at text) ∙ ap length is in
    let whole : at + length back ≡ length text = omega arith in
    eq-eqb (past_spaces at (drop at text)) (length text) (end ∙ whole)

module _ (text : List ℕ) (at : ℕ) where
  -- an item that is found is at its place
  place_of : (closing : ℕ) (i : Item) (found : IsItemAt text at closing i)
      → i ≡ record {
        begin = at + length found.piece.space;
        end = at + length found.piece.space + length found.piece.body;
      }
  place_of closing i found = λ j. record { begin = found.begin j; end = found.end j }

  last_found : (i : Item) → last_at text at ≡ Some i → AreLeft text at 0 (i ∷ [])
  last_found i run = by (item_at text at 93) refl run
    where
      by_blank : (i' : Item) → item_at text at 93 ≡ Some i' → (b : Bool) → is_blank text (i'.end + 1) ≡ b
          → (◌≡◌ {A = Option Item} (if b then Some i' else None) (Some i)) → AreLeft text at 0 (i ∷ [])
      by_blank i' found false blank run = cc
      by_blank i' found true blank run =
          let same : i' ≡ i = cc in
          let one = item_found text at 93 i' found in
          subst (λ (k : Item). AreLeft text at 0 (k ∷ [])) same (record {
            first = one.piece;
            others = [];
            rest = record {
              back = one.rest;
              behind = ap (list_all is_space) (sym one.behind) ∙ blank_left text (i'.end + 1) blank;
              pieces = (one.own, tt);
              joined =
                  one.joined ∙ ap (λ (z : List ℕ). z ++ 93 ∷ one.rest) (sym (append-nil (text_of one.piece)));
            };
            counted = refl;
            placed = ap (λ (k : Item). k ∷ []) (place_of 93 i' one);
          })

      by : (o : Option Item) → item_at text at 93 ≡ o → ended text o ≡ Some i → AreLeft text at 0 (i ∷ [])
      by None found run = cc
      by (Some i') found run = by_blank i' found (is_blank text (i'.end + 1)) refl run

  -- one more item in front
  one_more : (more : ℕ) (i : Item) (items : List Item) → item_at text at 44 ≡ Some i
      → AreLeft text (i.end + 1) more items → AreLeft text at (suc more) (i ∷ items)
  one_more more i items found left =
      let one = item_found text at 44 i found in
      let place : i.end + 1 ≡ at + length one.piece.space + length one.piece.body + 1 =
      ap (λ (k : ℕ). k + 1) one.end in
      record {
        first = one.piece;
        others = left.first ∷ left.others;
        rest = record {
          back = left.rest.back;
          behind = left.rest.behind;
          pieces = (one.own, left.rest.pieces);
          joined =
              one.joined
              ∙ ap (λ (z : List ℕ). text_of one.piece ++ 44 ∷ z) (sym one.behind ∙ left.rest.joined)
              ∙ regroup (text_of one.piece) (text_of left.first) (flat_map (λ p. 44 ∷ text_of p) left.others)
              (93 ∷ left.rest.back);
        };
        counted = ap suc left.counted;
        placed =
            ap (λ (k : Item). k ∷ items) (place_of 44 i one)
            ∙ ap (λ (z : List Item). record {
              begin = at + length one.piece.space;
              end = at + length one.piece.space + length one.piece.body;
            } ∷ z) (left.placed ∙ ap (λ (k : ℕ). places k (left.first ∷ left.others)) place);
      }
    where
      regroup : (a b c d : List ℕ) → a ++ 44 ∷ ((b ++ c) ++ d) ≡ (a ++ ((44 ∷ b) ++ c)) ++ d
      regroup a b c d = sym (append_assoc a (44 ∷ (b ++ c)) d)

pub last_step : (text : List ℕ) (at : ℕ) (items : List Item) → items_from 0 text at ≡ Some items
    → option_map (λ (i : Item). i ∷ []) (last_at text at) ≡ Some items
unfolding items_from
last_step text at items run = run

abbrev pub onto : (more : ℕ) (text : List ℕ) → Option Item → Option (List Item)
onto more text None = None
onto more text (Some i) = option_map (λ (is : List Item). i ∷ is) (items_from more text (i.end + 1))

pub from_step : (more : ℕ) (text : List ℕ) (at : ℕ)
    → items_from (suc more) text at ≡ onto more text (item_at text at 44)
unfolding items_from
from_step more text at = refl

-- the items that are found are left
pub items_found : (more : ℕ) (text : List ℕ) (at : ℕ) (items : List Item) → items_from more text at ≡ Some items
    → AreLeft text at more items
items_found zero text at items run = by (last_at text at) refl (last_step text at items run)
  where
    by : (o : Option Item) → last_at text at ≡ o → option_map (λ (i : Item). i ∷ []) o ≡ Some items
        → AreLeft text at 0 items
    by None is run = cc
    by (Some i) is run =
        let same : i ∷ [] ≡ items = cc in
        subst (λ (z : List Item). AreLeft text at 0 z) same (last_found text at i is)
items_found (suc more) text at items run =
    by (item_at text at 44) refl (sym (from_step more text at) ∙ run) (items_found more text)
  where
    within : (i : Item) → item_at text at 44 ≡ Some i → (o : Option (List Item))
        → items_from more text (i.end + 1) ≡ o → option_map (λ (is : List Item). i ∷ is) o ≡ Some items
        → ((k : ℕ) (found : List Item) → items_from more text k ≡ Some found → AreLeft text k more found)
        → AreLeft text at (suc more) items
    within i is None rest run known = cc
    within i is (Some found) rest run known =
        let same : i ∷ found ≡ items = cc in
        subst (λ (z : List Item). AreLeft text at (suc more) z) same
        (one_more text at more i found is (known (i.end + 1) found rest))

    by : (o : Option Item) → item_at text at 44 ≡ o → onto more text o ≡ Some items
        → ((k : ℕ) (found : List Item) → items_from more text k ≡ Some found → AreLeft text k more found)
        → AreLeft text at (suc more) items
    by None is run known = cc
    by (Some i) is run known = within i is (items_from more text (i.end + 1)) refl run known

module _ (text : List ℕ) (at : ℕ) (first : Piece) where
  abbrev pub end_of : ℕ
  end_of = at + length first.space + length first.body

  pub joined_last : (rest : IsRest text at first []) → drop at text ≡ text_of first ++ 93 ∷ rest.back
  joined_last rest = rest.joined ∙ ap (λ (z : List ℕ). z ++ 93 ∷ rest.back) (append-nil (text_of first))

  -- what stands behind the comma
  abbrev pub behind_comma : (p : Piece) (others : List Piece) → IsRest text at first (p ∷ others) → List ℕ
  behind_comma p others rest = (text_of p ++ flat_map (λ q. 44 ∷ text_of q) others) ++ 93 ∷ rest.back

  pub joined_more : (p : Piece) (others : List Piece) (rest : IsRest text at first (p ∷ others))
      → drop at text ≡ text_of first ++ 44 ∷ behind_comma p others rest
  joined_more p others rest =
      rest.joined
      ∙ append_assoc (text_of first) (44 ∷ (text_of p ++ flat_map (λ q. 44 ∷ text_of q) others)) (93 ∷ rest.back)

  pub rest_behind : (p : Piece) (others : List Piece) → IsRest text at first (p ∷ others)
      → IsRest text (end_of + 1) p others
  rest_behind p others rest = record {
    back = rest.back;
    behind = rest.behind;
    pieces = rest.pieces.1;
    joined =
        behind_closing text at 44 first (behind_comma p others rest) rest.pieces.0 (joined_more p others rest);
  }

  last_made : (rest : IsRest text at first []) → items_from 0 text at ≡ Some (places at (first ∷ []))
  unfolding items_from
  last_made rest =
      let joined = joined_last rest in
      let closed = at_closing text at 93 first rest.back rest.pieces.0 joined in
      let long : length text - end_of ≡ length (93 ∷ rest.back) = sym (length-drop end_of text) ∙ ap length closed in
      let inside : end_of + 1 ≤ length text = omega arith in
      let blank = is_left text (end_of + 1) rest.back inside
      (behind_closing text at 93 first rest.back rest.pieces.0 joined) rest.behind in
      let i = item_of text at 93 first rest.back rest.pieces.0 joined in
      ap (λ (o : Option Item). option_map (λ (k : Item). k ∷ []) (ended text o))
      (item_made text at 93 first rest.back rest.pieces.0 joined refl refl)
      ∙ ap (λ (b : Bool). option_map (λ (k : Item). k ∷ []) (if b then Some i else None)) blank

-- the items that are left are found
pub items_made : (others : List Piece) (text : List ℕ) (at : ℕ) (first : Piece) → IsRest text at first others
    → items_from (length others) text at ≡ Some (places at (first ∷ others))
items_made [] text at first rest = last_made text at first rest
items_made (p ∷ others) text at first rest =
    let back = behind_comma text at first p others rest in
    let joined = joined_more text at first p others rest in
    let i = item_of text at 44 first back rest.pieces.0 joined in
    let onward = items_made others text (end_of text at first + 1) p (rest_behind text at first p others rest) in
    from_step (length others) text at
    ∙ ap (onto (length others) text) (item_made text at 44 first back rest.pieces.0 joined refl refl)
    ∙ ap (option_map (λ (is : List Item). i ∷ is)) onward

-- an array begins
pub record IsOpened (text : List ℕ) (at : ℕ) : Type 0 where
  pub front : List ℕ
  pub before : list_all is_space front ≡ true
  pub joined : text ≡ front ++ 91 ∷ drop at text
  pub place : at ≡ length front + 1

module _ (text : List ℕ) where
  abbrev begin : ℕ
  begin = past_spaces 0 text

  bracket : (rest : List ℕ) → drop begin text ≡ rest → get_or text begin 0 ≡ 91 → (more : List ℕ) × (rest ≡ 91 ∷ more)
  bracket [] is byte =
      let place : begin ≡ begin + 0 = omega arith in
      let none : get_or text begin 0 ≡ 0 =
      ap (λ (k : ℕ). get_or text k 0) place ∙ sym (get_or-drop begin text 0 0) ∙ ap (λ (z : List ℕ). get_or z 0 0) is in
      absurd (omega (arith, none, byte))
  bracket (b ∷ more) is byte =
      let same : b ≡ 91 = sym (get_at text begin b more is) ∙ byte in
      (more, ap (λ (c : ℕ). c ∷ more) same)

  tested : (at : ℕ) (b : Bool) → nat_eq (get_or text begin 0) 91 ≡ b
      → (◌≡◌ {A = Option ℕ} (if b then Some (begin + 1) else None) (Some at)) → IsOpened text at
  tested at false is run = cc
  tested at true is run =
      let same : begin + 1 ≡ at = cc in
      let s = spaces 0 text in
      let zero_more : 0 + length s.space ≡ length s.space = omega arith in
      let place : begin ≡ length s.space = s.place ∙ zero_more in
      let after : drop begin text ≡ s.rest =
      ap (λ (k : ℕ). drop k text) s.place ∙ cut_at text 0 s.space s.rest s.joined in
      let byte = (Decides-eqb (get_or text begin 0) 91).0 is in
      let more = bracket s.rest after byte in
      let rest : drop (begin + 1) text ≡ more.0 = one_on text begin 91 more.0 (after ∙ more.1) in
      subst (λ (k : ℕ). IsOpened text k) same (record {
        front = s.space;
        before = s.blank;
        joined = s.joined ∙ ap (λ (z : List ℕ). s.space ++ z) (more.1 ∙ ap (λ (z : List ℕ). 91 ∷ z) (sym rest));
        place = ap (λ (k : ℕ). k + 1) place;
      })

  pub opened_found : (at : ℕ) → opened text ≡ Some at → IsOpened text at
  opened_found at run = tested at (nat_eq (get_or text begin 0) 91) refl run

pub opened_made : (text front rest : List ℕ) → list_all is_space front ≡ true → text ≡ front ++ 91 ∷ rest
    → opened text ≡ Some (length front + 1)
opened_made text front rest blank joined =
    let zero_more : 0 + length front ≡ length front = omega arith in
    let place : past_spaces 0 text ≡ length front =
    ap (past_spaces 0) joined ∙ spaces_end 0 front (91 ∷ rest) blank refl ∙ zero_more in
    let at : drop (length front) text ≡ 91 ∷ rest =
    ap (λ (k : ℕ). drop k text) (sym zero_more) ∙ cut_at text 0 front (91 ∷ rest) joined in
    let byte = eq-eqb (get_or text (length front) 0) 91 (get_at text (length front) 91 rest at) in
    ap (λ (k : ℕ). if nat_eq (get_or text k 0) 91 then Some (k + 1) else None) place
    ∙ ap (λ (b : Bool). if b then Some (length front + 1) else None) byte

-- the places that are answered are those of the items
pub are_items : (text : List ℕ) (more at : ℕ) (items : List Item) → opened text ≡ Some at
    → items_from more text at ≡ Some items → AreItems text (suc more) items
are_items text more at items opens found =
    let o = opened_found text at opens in
    let left = items_found more text at items found in record {
      front = o.front;
      first = left.first;
      others = left.others;
      array = record {
        back = left.rest.back;
        before = o.before;
        behind = left.rest.behind;
        pieces = left.rest.pieces;
        joined = o.joined ∙ ap (λ (z : List ℕ). o.front ++ 91 ∷ z) left.rest.joined;
      };
      counted = ap suc left.counted;
      placed = left.placed ∙ ap (λ (k : ℕ). places k (left.first ∷ left.others)) o.place;
    }

-- an array is the rest of one behind its bracket
pub rest_of : (text front : List ℕ) (first : Piece) (others : List Piece) → IsArray text front first others
    → IsRest text (length front + 1) first others
rest_of text front first others array =
    let rest = text_of first ++ flat_map (λ p. 44 ∷ text_of p) others ++ 93 ∷ array.back in
    let zero_more : 0 + length front ≡ length front = omega arith in
    let begun : drop (length front) text ≡ 91 ∷ rest =
    ap (λ (k : ℕ). drop k text) (sym zero_more) ∙ cut_at text 0 front (91 ∷ rest) array.joined in
    record {
      back = array.back;
      behind = array.behind;
      pieces = array.pieces;
      joined = one_on text (length front) 91 rest begun;
    }

-- and the items of an array are answered
pub items_are : (text : List ℕ) (count : ℕ) (items : List Item) → AreItems text count items
    → items_in text count ≡ Some items
items_are text count items are =
    let rest = text_of are.first ++ flat_map (λ p. 44 ∷ text_of p) are.others ++ 93 ∷ are.array.back in
    let opens = opened_made text are.front rest are.array.before are.array.joined in
    let made = items_made are.others text (length are.front + 1) are.first
    (rest_of text are.front are.first are.others are.array) in
    ap (items_in text) are.counted ∙ ap (items_behind (length are.others) text) opens ∙ made
    ∙ ap Some (sym are.placed)
