-- An array has its items once, however many are asked for.
use Rattle.std.proofs.Common.{◌≡◌, ℕ, suc, zero, ◌+◌, Bool, true, false, nat_eq, List, [], ◌∷◌, drop, get_or, Option}
use Rattle.std.proofs.Common.{None}
use Rattle.std.proofs.Common.{Some, refl, ap, sym, ◌∙◌, arith, if◌then◌else◌}
use Rattle.std.specs.Option.{option_map}
use Rattle.std.proofs.lemmas.Bool.Decides.{Decides-eqb}
use Rattle.oncrpc_encode.specs.declared.item.Item.{Item}
use Rattle.oncrpc_encode.specs.Arrays.{AreItems}
use Rattle.oncrpc_encode.specs.Private.Scanned.{chosen, ended, end_from, is_blank, item_at, items_behind, items_from}
use Rattle.oncrpc_encode.specs.Private.Scanned.{items_in, last_at, opened, past_spaces, plain}
use Rattle.oncrpc_encode.proofs.Arrayed.{from_step, items_are, last_step, onto}

module _ (text : List ℕ) where
  -- one byte ends an item
  one_byte : (a b begin : ℕ) (o : Option ℕ) (i j : Item) → (a ≡ b → ⊥) → chosen text a begin o ≡ Some i
      → chosen text b begin o ≡ Some j → ⊥
  one_byte a b begin None i j apart first second = cc
  one_byte a b begin (Some end) i j apart first second =
      by (nat_eq (get_or text end 0) a) (nat_eq (get_or text end 0) b) refl refl first second
    where
      by : (u v : Bool) → nat_eq (get_or text end 0) a ≡ u → nat_eq (get_or text end 0) b ≡ v
          → (◌≡◌ {A = Option Item} (if u then Some (record { begin = begin; end = end }) else None) (Some i))
          → (◌≡◌ {A = Option Item} (if v then Some (record { begin = begin; end = end }) else None) (Some j)) → ⊥
      by false v is same first second = cc
      by true false is same first second = cc
      by true true is same first second =
          apart (sym ((Decides-eqb (get_or text end 0) a).0 is) ∙ (Decides-eqb (get_or text end 0) b).0 same)

  not_both : (at : ℕ) (i j : Item) → item_at text at 93 ≡ Some i → item_at text at 44 ≡ Some j → ⊥
  not_both at i j first second =
      let begin = past_spaces at (drop at text) in
      one_byte 93 44 begin (end_from begin (plain 0) (drop begin text)) i j (λ e. omega (arith, e)) first second

  -- an item that is the last is one
  last_item : (at : ℕ) (xs : List Item) → items_from 0 text at ≡ Some xs → (i : Item) × (item_at text at 93 ≡ Some i)
  last_item at xs run = by (item_at text at 93) refl (last_step text at xs run)
    where
      by : (o : Option Item) → item_at text at 93 ≡ o → option_map (λ (i : Item). i ∷ []) (ended text o) ≡ Some xs
          → (i : Item) × (item_at text at 93 ≡ Some i)
      by None is run = cc
      by (Some i) is run = (i, is)

  -- and one with more behind it
  next_item : (more at : ℕ) (xs : List Item) → items_from (suc more) text at ≡ Some xs
      → (i : Item) × (rest : List Item) × (item_at text at 44 ≡ Some i) × (items_from more text (i.end + 1) ≡ Some rest)
      × (i ∷ rest ≡ xs)
  next_item more at xs run = by (item_at text at 44) refl (sym (from_step more text at) ∙ run)
    where
      within : (i : Item) → item_at text at 44 ≡ Some i → (o : Option (List Item))
          → items_from more text (i.end + 1) ≡ o → option_map (λ (is : List Item). i ∷ is) o ≡ Some xs
          → (i : Item) × (rest : List Item) × (item_at text at 44 ≡ Some i)
          × (items_from more text (i.end + 1) ≡ Some rest) × (i ∷ rest ≡ xs)
      within i is None found run = cc
      within i is (Some rest) found run = let same : i ∷ rest ≡ xs = cc in (i, rest, is, found, same)

      by : (o : Option Item) → item_at text at 44 ≡ o → onto more text o ≡ Some xs
          → (i : Item) × (rest : List Item) × (item_at text at 44 ≡ Some i)
          × (items_from more text (i.end + 1) ≡ Some rest) × (i ∷ rest ≡ xs)
      by None is run = cc
      by (Some i) is run = within i is (items_from more text (i.end + 1)) refl run

  once : (n m at : ℕ) (xs ys : List Item) → items_from n text at ≡ Some xs → items_from m text at ≡ Some ys → xs ≡ ys
  once zero zero at xs ys first second = cc
  once zero (suc m) at xs ys first second =
      let last = last_item at xs first in
      let next = next_item m at ys second in
      absurd (not_both at last.0 next.0 last.1 next.2)
  once (suc n) zero at xs ys first second =
      let last = last_item at ys second in
      let next = next_item n at xs first in
      absurd (not_both at last.0 next.0 last.1 next.2)
  once (suc n) (suc m) at xs ys first second =
      let a = next_item n at xs first in
      let b = next_item m at ys second in
      let same : a.0 ≡ b.0 = let e : ◌≡◌ {A = Option Item} (Some a.0) (Some b.0) = sym a.2 ∙ b.2 in cc in
      let rest = once n m (a.0.end + 1) a.1 b.1 a.3
      (ap (λ (i : Item). items_from m text (i.end + 1)) same ∙ b.3) in
      sym a.4 ∙ ap (λ (i : Item). i ∷ a.1) same ∙ ap (λ (is : List Item). b.0 ∷ is) rest ∙ b.4

  behind_once : (n m : ℕ) (o : Option ℕ) (xs ys : List Item) → items_behind n text o ≡ Some xs
      → items_behind m text o ≡ Some ys → xs ≡ ys
  behind_once n m None xs ys first second = cc
  behind_once n m (Some at) xs ys first second = once n m at xs ys first second

  pub in_once : (n m : ℕ) (xs ys : List Item) → items_in text n ≡ Some xs → items_in text m ≡ Some ys → xs ≡ ys
  in_once zero m xs ys first second = cc
  in_once (suc n) zero xs ys first second = cc
  in_once (suc n) (suc m) xs ys first second = behind_once n m (opened text) xs ys first second

pub one_reading : (text : List ℕ) (n m : ℕ) (xs ys : List Item) → AreItems text n xs → AreItems text m ys → xs ≡ ys
one_reading text n m xs ys first second =
    in_once text n m xs ys (items_are text n xs first) (items_are text m ys second)
