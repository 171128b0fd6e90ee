-- What is answered of a text.
use Rattle.std.proofs.Common.{◌≡◌, ℕ, suc, zero, ◌+◌, ◌-◌, List, Option, None, Some, Result, Ok, Err, IfOk, IfSome}
use Rattle.std.proofs.Common.{IfNone, Vec}
use Rattle.std.proofs.Common.{refl, ap, sym, ◌∙◌, subst, arith}
use Rattle.std.specs.declared.alloc.AllocError.{AllocError}
use Rattle.std.specs.declared.alloc.Global.{Global}
use Rattle.std.specs.Option.{option_map}
use Rattle.oncrpc_encode.specs.declared.item.Item.{Item}
use Rattle.oncrpc_encode.specs.Arrays.{AreItems}
use Rattle.oncrpc_encode.specs.Private.Scanned.{items_behind, items_from, items_in, opened}
use Rattle.oncrpc_encode.proofs.Arrayed.{are_items, items_are}

one_less : (n : ℕ) → (n ≡ 0 → ⊥) → n ≡ suc (n - 1)
one_less zero some = absurd (some refl)
one_less (suc n) some = omega arith

module _ (text : List ℕ) (count : ℕ) (some : count ≡ 0 → ⊥) where
  before : count ≡ suc (count - 1)
  before = one_less count some

  -- where no array begins
  pub unopened : None ≡ opened text → (items : List Item) → AreItems text count items → ⊥
  unopened opens items are =
      let none : items_in text count ≡ None =
      ap (items_in text) before ∙ ap (items_behind (count - 1) text) (sym opens) in
      let both : ◌≡◌ {A = Option (List Item)} None (Some items) = sym none ∙ items_are text count items are in cc

  module _ (begin : ℕ) (opens : Some begin ≡ opened text) where
    unfound : None ≡ items_from (count - 1) text begin → (items : List Item) → AreItems text count items → ⊥
    unfound found items are =
        let none : items_in text count ≡ None =
        ap (items_in text) before ∙ ap (items_behind (count - 1) text) (sym opens) ∙ sym found in
        let both : ◌≡◌ {A = Option (List Item)} None (Some items) = sym none ∙ items_are text count items are in cc

    module _ (r : Result (Option (Vec Item Global)) AllocError)
        (found : IfOk r (λ o. option_map (λ (v : Vec Item Global). v.items) o
        ≡ items_from (count - 1) text begin)) where
      pub found_answered : IfOk r (λ o. IfSome o (λ v. AreItems text count v.items))
      found_answered = by r found
        where
          by : (r : Result (Option (Vec Item Global)) AllocError)
              → IfOk r (λ o. option_map (λ (v : Vec Item Global). v.items) o ≡ items_from (count - 1) text begin)
              → IfOk r (λ o. IfSome o (λ v. AreItems text count v.items))
          by (Ok None) is = tt
          by (Ok (Some v)) is =
              subst (λ (n : ℕ). AreItems text n v.items) (sym before)
              (are_items text (count - 1) begin v.items (sym opens) (sym is))
          by (Err e) is = tt

      pub none_answered : IfOk r (λ o. IfNone o ((items : List Item) → AreItems text count items → ⊥))
      none_answered = by r found
        where
          by : (r : Result (Option (Vec Item Global)) AllocError)
              → IfOk r (λ o. option_map (λ (v : Vec Item Global). v.items) o ≡ items_from (count - 1) text begin)
              → IfOk r (λ o. IfNone o ((items : List Item) → AreItems text count items → ⊥))
          by (Ok None) is = unfound is
          by (Ok (Some v)) is = tt
          by (Err e) is = tt
