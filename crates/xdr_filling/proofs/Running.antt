-- Numbers of one unit that fill items of an array.
use Rattle.std.proofs.Common.{◌≡◌, ℕ, ℤ, ◌+◌, ◌-◌, ◌≤◌, suc, zero, Bool, true, false, List, [], ◌∷◌, ◌++◌, length}
use Rattle.std.proofs.Common.{refl, ap, sym, ◌∙◌, subst, arith, append-nil, append_assoc, replicate, take}
use Rattle.std.proofs.lemmas.List.{take-take}
use Rattle.xdr_units.specs.Numbers.{num4}
use Rattle.xdr_types.specs.Kinds.{KindView, Part, kind_at}
use Rattle.xdr_types.specs.Fits.{item_part}
use Rattle.xdr_writer.specs.Items.{ItemView, number}
use Rattle.xdr_writer.specs.Runs.{as_items}
use Rattle.xdr_writer.specs.Represents.{word_kind}
use Rattle.xdr_filling.specs.Holes.{Hole, hole, Goes}
use Rattle.xdr_filling.specs.Filled.{units}
use Rattle.xdr_filling.specs.Private.Makes.{IsNode, AreUnits, is_unit}
use Rattle.xdr_filling.proofs.Going.{stays, goes_on, fills}
use Rattle.xdr_filling.proofs.Making.{int_node, unsigned_node}

module _ (s : List KindView) (place : ℕ) (room : ℕ) (low : 1 ≤ room) (hs : List Hole) where
  unit_node : (signed : Bool) (z : ℤ) → is_unit signed z ≡ true
      → IsNode s (word_kind signed) (number z ∷ []) (num4 z) []
  unit_node true z legal = int_node s z (num4 z) legal refl
  unit_node false z legal = unsigned_node s z (num4 z) legal refl

  abbrev items_hole : ℕ → List Hole
  items_hole left = hole (replicate left (item_part place)) room ∷ hs

  one_more : (signed : Bool) (z : ℤ) (left : ℕ) → kind_at s place ≡ word_kind signed → is_unit signed z ≡ true
      → Goes s (items_hole (suc left)) (items_hole left) (number z ∷ []) (num4 z)
  one_more signed z left word legal =
      fills s (item_part place) (replicate left (item_part place)) room hs (number z ∷ []) (num4 z) []
      (subst (λ (k : KindView). IsNode s k (number z ∷ []) (num4 z) []) (sym word) (unit_node signed z legal)) refl low

  pub numbers_go : (signed : Bool) (zs : List ℤ) (left : ℕ) → kind_at s place ≡ word_kind signed → AreUnits signed zs
      → Goes s (items_hole (length zs + left)) (items_hole left) (as_items zs) (units zs)
  numbers_go signed [] left word all =
      let none : left ≡ length {A = ℤ} [] + left = omega arith in
      subst (λ (n : ℕ). Goes s (items_hole n) (items_hole left) [] []) none (stays s (items_hole left))
  numbers_go signed (z ∷ zs) left word all =
      let one : suc (length zs + left) ≡ length (z ∷ zs) + left = omega arith in
      subst (λ (n : ℕ). Goes s (items_hole n) (items_hole left) (as_items (z ∷ zs)) (units (z ∷ zs))) one
      (goes_on s (items_hole (suc (length zs + left))) (items_hole (length zs + left)) (items_hole left)
      (number z ∷ []) (as_items zs) (num4 z) (units zs)
      (one_more signed z (length zs + left) word all.0) (numbers_go signed zs left word all.1))

  -- over what was filled before
  pub run_goes : (signed : Bool) (zs : List ℤ) (left : ℕ) (r : List Hole) (is : List ItemView) (bytes : List ℕ)
      → kind_at s place ≡ word_kind signed → AreUnits signed zs → length zs ≤ left
      → Goes s r (items_hole left) is bytes
      → Goes s r (items_hole (left - length zs)) (is ++ as_items zs) (bytes ++ units zs)
  run_goes signed zs left r is bytes word all few before =
      let split : left ≡ length zs + (left - length zs) = omega arith in
      goes_on s r (items_hole (length zs + (left - length zs))) (items_hole (left - length zs)) is (as_items zs) bytes
      (units zs) (subst (λ (n : ℕ). Goes s r (items_hole n) is bytes) split before)
      (numbers_go signed zs (left - length zs) word all)

pub front_units : (signed : Bool) (n m : ℕ) (zs : List ℤ) → n ≤ m → AreUnits signed (take n (take m zs))
    → AreUnits signed (take n zs)
front_units signed n m zs few all = subst (λ (x : List ℤ). AreUnits signed x) (take-take n m zs few) all
