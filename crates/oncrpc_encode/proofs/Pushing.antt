-- Items that are found one behind another.
use Rattle.std.proofs.Common.{◌≡◌, ℕ, suc, ◌+◌, List, [], ◌∷◌, ◌++◌, Option, None, Some, refl, ap, sym, ◌∙◌}
use Rattle.std.proofs.Common.{append_assoc}
use Rattle.std.specs.Option.{option_map}
use Rattle.oncrpc_encode.specs.declared.item.Item.{Item}
use Rattle.oncrpc_encode.specs.Private.Scanned.{item_at, items_from, last_at}
use Rattle.oncrpc_encode.proofs.Arrayed.{from_step, onto}

abbrev behind : List Item → Option (List Item) → Option (List Item)
behind xs o = option_map (λ (is : List Item). xs ++ is) o

joins : (xs : List Item) (i : Item) (o : Option (List Item))
    → behind xs (option_map (λ (is : List Item). i ∷ is) o) ≡ behind (xs ++ i ∷ []) o
joins xs i None = refl
joins xs i (Some is) = ap Some (sym (append_assoc xs (i ∷ []) is))

module _ (text : List ℕ) (xs : List Item) (n m at : ℕ) (e : n ≡ suc m) where
  stepped : behind xs (items_from n text at) ≡ behind xs (onto m text (item_at text at 44))
  stepped = ap (λ (k : ℕ). behind xs (items_from k text at)) e ∙ ap (behind xs) (from_step m text at)

  -- one more
  pub pushed : (i : Item) → item_at text at 44 ≡ Some i
      → behind xs (items_from n text at) ≡ behind (xs ++ i ∷ []) (items_from m text (i.end + 1))
  pushed i found =
      stepped ∙ ap (λ (o : Option Item). behind xs (onto m text o)) found
      ∙ joins xs i (items_from m text (i.end + 1))

  -- none
  pub none_pushed : item_at text at 44 ≡ None → behind xs (items_from n text at) ≡ None
  none_pushed none = stepped ∙ ap (λ (o : Option Item). behind xs (onto m text o)) none

module _ (text : List ℕ) (xs : List Item) (n at : ℕ) (e : n ≡ 0) where
  ending : behind xs (items_from n text at) ≡ behind xs (option_map (λ (i : Item). i ∷ []) (last_at text at))
  unfolding items_from
  ending = ap (λ (k : ℕ). behind xs (items_from k text at)) e

  -- the last
  pub last_pushed : (i : Item) → last_at text at ≡ Some i → behind xs (items_from n text at) ≡ Some (xs ++ i ∷ [])
  last_pushed i found = ending ∙ ap (λ (o : Option Item). behind xs (option_map (λ (k : Item). k ∷ []) o)) found

  pub none_last : last_at text at ≡ None → behind xs (items_from n text at) ≡ None
  none_last none = ending ∙ ap (λ (o : Option Item). behind xs (option_map (λ (k : Item). k ∷ []) o)) none
