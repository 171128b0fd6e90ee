-- Each item of a value is taken.
use Rattle.std.proofs.Common.{◌≡◌, ℕ, List, [], ◌∷◌, ◌++◌, length, refl, ap, sym, ◌∙◌, arith, append-nil}
use Rattle.std.proofs.Common.{append_assoc, length-append}
use Rattle.std.specs.Prelude.{◌↔◌}
use Rattle.xdr_types.specs.Kinds.{KindView}
use Rattle.xdr_types.specs.Tree.{Tree}
use Rattle.xdr_types.specs.Fits.{Fits}
use Rattle.xdr_types.specs.Spelling.{bytes_of}
use Rattle.xdr_types.specs.Within.{Bounds, FitsWithin}
use Rattle.xdr_types.proofs.Unique.{one}
use Rattle.xdr_writer.specs.Items.{ItemView, NodeItem, of_node, all_spelled, items}
use Rattle.xdr_writer.specs.ItemsOf.{node_items_of, items_of}
use Rattle.xdr_writer.specs.Represents.{Begin}
use Rattle.xdr_writer.specs.Laws.{ItemsAreTaken}
use Rattle.xdr_writer.specs.Answers.{Takes, IsKnown, HasNoValue}
use Rattle.xdr_writer.specs.declared.refusal.Why.{Why}
use Rattle.xdr_writer.specs.declared.refusal.Why.TheVariants as why
use Rattle.xdr_writer.specs.declared.item.Step.{Step}
use Rattle.xdr_writer.specs.declared.item.Step.TheVariants as step
use Rattle.xdr_writer.proofs.ItemsOf.{items_join}
use Rattle.xdr_writer.proofs.Joined.{items_joined}
use Rattle.xdr_writer.proofs.Placed.{bytes_behind}
use Rattle.xdr_writer.proofs.Begin.{none_begin, fronts_begin}

empty : (xs : List ItemView) → length xs ≡ 0 → xs ≡ []
empty [] e = refl
empty (x ∷ xs) e = absurd (omega (arith, e))

-- a value has no items behind those of another
none_after : (s : List KindView) (t : ℕ) (v w : Tree) → Fits s t v → Fits s t w → (after : List ItemView)
    → items_of s t v ≡ items_of s t w ++ after → after ≡ []
none_after s t v w f g after e =
    let is : List NodeItem = node_items_of s t w in
    let begin : Begin s t is = fronts_begin s t w g is [] refl (none_begin s t) in
    let k = begin.by_items v after f e in
    let bytes : bytes_of s t w ++ all_spelled k.0 ≡ bytes_of s t v ++ [] =
    ap (λ (z : List ℕ). z ++ all_spelled k.0) (sym (items_join s t w g))
    ∙ sym (bytes_behind s t v is k.0 f k.1) ∙ sym (append-nil (bytes_of s t v)) in
    let same : w ≡ v = (one s t w v (all_spelled k.0) [] g f bytes).0 in
    let count : length (items_of s t w) ≡ length (items_of s t v) =
    ap (λ (x : Tree). length (items_of s t x)) same in
    empty after (omega (
      arith,
      count,
      ap (λ (z : List ItemView). length z) e,
      length-append (items_of s t w) after,
    ))

module _ (s : List KindView) (t : ℕ) (l : Bounds) (v : Tree) (within : FitsWithin s t l v) (is : List NodeItem)
    (i : ItemView) (after : List ItemView) (e : items_of s t v ≡ items is ++ i ∷ after) where
  memory_alone : (w : Why) → (IsKnown w → HasNoValue s t l is i) → w ≡ why.NoMemory
  memory_alone why.NoMemory none = refl
  memory_alone why.WrongItem none = absurd (none tt v after within e)
  memory_alone why.NotInRange none = absurd (none tt v after within e)
  memory_alone (why.Refused f) none = absurd (none tt v after within e)
  memory_alone why.PastEnd none = absurd (none tt v after within e)
  memory_alone why.PastLimit none = absurd (none tt v after within e)
  memory_alone why.Unfinished none = absurd (none tt v after within e)

  with_it : (k : KindView) → items (is ++ of_node k i ∷ []) ≡ items is ++ i ∷ []
  with_it k = items_joined is (of_node k i ∷ [])

  last : (k : KindView) (x : Step) → Takes s t l (is ++ of_node k i ∷ []) x → (x ≡ step.Done) ↔ (after ≡ [])
  last k step.More h = (
    (λ d. absurd (cc d)),
    (λ none. absurd (h.unfinished v within.0
        (e ∙ ap (λ (z : List ItemView). items is ++ i ∷ z) none ∙ sym (with_it k)))),
  )
  last k step.Done h =
      let mine : items_of s t h.0 ≡ items is ++ i ∷ [] =
      ap (λ (z : List NodeItem). items z) h.2 ∙ with_it k in
      let split : items_of s t v ≡ items_of s t h.0 ++ after =
      e ∙ sym (append_assoc (items is) (i ∷ []) after) ∙ ap (λ (z : List ItemView). z ++ after) (sym mine) in
      ((λ d. none_after s t v h.0 within.0 h.1.0 after split), (λ none. refl))

pub items_are_taken : (s : List KindView) → ItemsAreTaken s
items_are_taken s t l v within = (
  (λ is i after e. record {
    memory_alone = memory_alone s t l v within is i after e;
    last = last s t l v within is i after e;
  }),
  (λ is e none. none v within e),
)
