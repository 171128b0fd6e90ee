-- What a writer's answers say of numbers that are put at once, where they are all of an array.
use Rattle.std.proofs.Common.{◌≡◌, ◌+◌, ◌<◌, ◌≤◌, ℕ, ℤ, pos, negsuc, List, [], ◌∷◌, ◌++◌, length, refl, ap, sym, subst}
use Rattle.std.proofs.Common.{◌∙◌, arith, append-nil, length-append}
use Rattle.std.specs.Prelude.{Option, Some, None}
use Rattle.xdr_types.specs.Kinds as xdr
use Rattle.xdr_types.specs.Kinds.{KindView}
use Rattle.xdr_types.specs.Tree.{Tree}
use Rattle.xdr_types.specs.Fits.{Fits}
use Rattle.xdr_types.specs.Within.{Bounds}
use Rattle.xdr_writer.specs.Items.{NodeItem, ItemView, of_node, number, count, spelled_as, all_spelled, items}
use Rattle.xdr_writer.specs.ItemsOf.{node_items_of, items_of}
use Rattle.xdr_writer.specs.Represents.{Begin}
use Rattle.xdr_writer.specs.Runs.{as_items}
use Rattle.xdr_writer.specs.Answers.{Takes}
use Rattle.xdr_writer.specs.declared.item.Step.{Step}
use Rattle.xdr_writer.specs.declared.item.Step.TheVariants as step
use Rattle.example_xdr.specs.Counted.{array_kinds, array, array_bytes}

none_left : (is : List NodeItem) → length (items is) ≡ 0 → is ≡ []
none_left [] e = refl
none_left (i ∷ is) e = absurd (omega (arith, e))

items_joined : (is js : List NodeItem) → items (is ++ js) ≡ items is ++ items js
items_joined [] js = refl
items_joined (i ∷ is) js = ap (λ (xs : List ItemView). i.item ∷ xs) (items_joined is js)

-- items of nodes that are all of a value's are its own
pub whole_nodes : (kinds : List KindView) (kind : ℕ) (v : Tree) (is : List NodeItem) → Begin kinds kind is
    → Fits kinds kind v → items_of kinds kind v ≡ items is → node_items_of kinds kind v ≡ is
whole_nodes kinds kind v is b f e =
    let k = b.by_items v [] f (e ∙ sym (append-nil (items is))) in
    let all : items is ≡ items is ++ items k.0 =
    sym e ∙ ap (λ (x : List NodeItem). items x) k.1 ∙ items_joined is k.0 in
    let none : k.0 ≡ [] =
    none_left k.0
    (omega (arith, ap (λ (x : List ItemView). length x) all, length-append (items is) (items k.0))) in
    k.1 ∙ ap (λ (x : List NodeItem). is ++ x) none ∙ append-nil is

abbrev pub numbers : List ℤ
numbers = pos 3 ∷ negsuc 0 ∷ []

abbrev pub counted : KindView → List NodeItem
counted k = of_node k (count 2) ∷ []

module _ (k : KindView) (more : List NodeItem) (are : items more ≡ as_items numbers) where
  all_items : items_of array_kinds 1 array ≡ items (counted k ++ more)
  all_items = ap (λ (x : List ItemView). count 2 ∷ x) (sym are)

  -- the last makes the value whole
  pub last_done : (limits : Bounds) (last : Option Step) → (last ≡ None → numbers ≡ [])
      → ((s : Step) → last ≡ Some s → Takes array_kinds 1 limits (counted k ++ more) s) → last ≡ Some step.Done
  last_done limits None none takes =
      let e : numbers ≡ [] = none refl in absurd (omega (arith, ap (λ (l : List ℤ). length l) e))
  last_done limits (Some step.Done) none takes = refl
  last_done limits (Some step.More) none takes =
      absurd ((takes step.More refl).unfinished array refl all_items)

  -- and their bytes are its encoding
  pub all_written : (before middle after : List ℕ) → before ≡ [] → middle ≡ before ++ spelled_as k (count 2)
      → after ≡ middle ++ all_spelled more → Begin array_kinds 1 (counted k ++ more) → after ≡ array_bytes
  all_written before middle after none first rest b =
      rest
      ∙ ap (λ (z : List ℕ). z ++ all_spelled more) (first ∙ ap (λ (z : List ℕ). z ++ spelled_as k (count 2)) none)
      ∙ sym (ap (λ (x : List NodeItem). all_spelled x)
      (whole_nodes array_kinds 1 array (counted k ++ more) b refl all_items))

-- a family over the kinds and the place of the array
pub moved_array : (F : List KindView → ℕ → Type 0) → (kinds : List KindView) (kind : ℕ) → kinds ≡ array_kinds
    → kind ≡ 1 → F kinds kind → F array_kinds 1
moved_array F kinds kind is at f =
    subst (λ (x : ℕ). F array_kinds x) at (subst (λ (x : List KindView). F x kind) is f)
