-- The items of an array lie in its text.
use Rattle.std.proofs.Common.{◌≡◌, ℕ, suc, ◌+◌, ◌-◌, ◌≤◌, List, [], ◌∷◌, length, drop, refl, ap, sym, ◌∙◌, subst, arith}
use Rattle.std.proofs.Common.{length-drop}
use Rattle.std.specs.List.{AllByRecursion}
use Rattle.oncrpc_encode.specs.declared.item.Item.{Item}
use Rattle.oncrpc_encode.specs.Arrays.{AreItems, Piece, places}
use Rattle.oncrpc_encode.proofs.Arrayed.{IsRest, behind_comma, end_of, joined_last, joined_more, rest_behind, rest_of}
use Rattle.oncrpc_encode.proofs.OneItem.{at_closing}

abbrev pub IsInside : (size : ℕ) → Item → Type 0
IsInside size i = (i.begin ≤ i.end) × (i.end ≤ size)

-- a place at which a byte stands
stands : (text : List ℕ) (end c : ℕ) (rest : List ℕ) → drop end text ≡ c ∷ rest → end ≤ length text
stands text end c rest is =
    let long : length text - end ≡ length (c ∷ rest) = sym (length-drop end text) ∙ ap length is in omega arith

within : (others : List Piece) (text : List ℕ) (at : ℕ) (first : Piece) → IsRest text at first others
    → AllByRecursion (IsInside (length text)) (places at (first ∷ others))
within [] text at first rest = (
  (
    omega arith,
    stands text (end_of text at first) 93 rest.back
        (at_closing text at 93 first rest.back rest.pieces.0 (joined_last text at first rest)),
  ),
  tt,
)
within (p ∷ others) text at first rest =
    let back = behind_comma text at first p others rest in (
      (
        omega arith,
        stands text (end_of text at first) 44 back
            (at_closing text at 44 first back rest.pieces.0 (joined_more text at first p others rest)),
      ),
      within others text (end_of text at first + 1) p (rest_behind text at first p others rest),
    )

pub all_inside : (text : List ℕ) (count : ℕ) (items : List Item) → AreItems text count items
    → AllByRecursion (IsInside (length text)) items
all_inside text count items are =
    subst (AllByRecursion (IsInside (length text))) (sym are.placed)
    (within are.others text (length are.front + 1) are.first (rest_of text are.front are.first are.others are.array))

length-places : (at : ℕ) (ps : List Piece) → length (places at ps) ≡ length ps
length-places at [] = refl
length-places at (p ∷ ps) = ap suc (length-places (at + length p.space + length p.body + 1) ps)

pub counted : (text : List ℕ) (count : ℕ) (items : List Item) → AreItems text count items → length items ≡ count
counted text count items are =
    ap length are.placed ∙ length-places (length are.front + 1) (are.first ∷ are.others) ∙ sym are.counted
