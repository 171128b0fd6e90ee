-- Items that begin each value whose bytes, or whose items, begin with theirs.
use Rattle.std.proofs.Common.{◌≡◌, ℕ, ◌≤◌, List, [], ◌∷◌, ◌++◌, length, refl, ap, sym, ◌∙◌, subst, arith}
use Rattle.std.proofs.Common.{length-append, append-nil, append_assoc}
use Rattle.xdr_types.specs.Kinds.{KindView}
use Rattle.xdr_types.specs.Tree.{Tree}
use Rattle.xdr_types.specs.Fits.{Fits}
use Rattle.xdr_types.specs.Spelling.{bytes_of}
use Rattle.xdr_types.specs.Layout.{Entry}
use Rattle.xdr_types.proofs.Unique.{equal}
use Rattle.xdr_laws.proofs.Known.{one_stands}
use Rattle.xdr_units.proofs.Bytes.{same_front}
use Rattle.xdr_writer.specs.Items.{ItemView, NodeItem, spelled, all_spelled, items}
use Rattle.xdr_writer.specs.ItemsOf.{node_items_of, items_of}
use Rattle.xdr_writer.specs.Forms.{IsNext}
use Rattle.xdr_writer.specs.Represents.{Begin}
use Rattle.xdr_writer.specs.Laws.{ItemsTellValue}
use Rattle.xdr_writer.proofs.Joined.{all_units, spelled_more, AreSome, some_behind, no_more, items_behind}
use Rattle.xdr_writer.proofs.Joined.{items_joined}
use Rattle.xdr_writer.proofs.ItemsOf.{items_join, some_of}
use Rattle.xdr_writer.proofs.Placed.{IsAt, next_stands, bytes_behind}
use Rattle.xdr_writer.proofs.SameItem.{same_at, node_item}

abbrev pub first_or : ItemView → List ItemView → ItemView
first_or d [] = d
first_or d (i ∷ is) = i

pub not_none : (i : ItemView) (is : List ItemView) → [] ≡ i ∷ is → ⊥
not_none i is e =
    let n : 0 ≡ length (i ∷ is) = ap (λ (z : List ItemView). length z) e in absurd (omega (arith, n))

module _ (s : List KindView) (t : ℕ) where
  pub none_begin : Begin s t []
  none_begin = record {
    by_bytes = λ v more f e. (node_items_of s t v, refl);
    by_items = λ v more f e. (node_items_of s t v, refl);
  }

  -- at an entry that is next the value's item is the one that stands there
  pub here : (is : List NodeItem) (e : Entry) → IsNext s t (all_spelled is) e → (v : Tree) (r : NodeItem)
      (rs : List NodeItem) → Fits s t v → node_items_of s t v ≡ is ++ r ∷ rs → IsAt s e r
  here is e next v r rs f at =
      let g = next_stands s t v is r rs f at in
      let one : g.0 ≡ e = one_stands s t (all_spelled is) (all_units is) g.0 e g.1.0 next.0 in
      subst (λ (x : Entry). IsAt s x r) one g.2

  by_bytes : (is : List NodeItem) (e : Entry) (i : NodeItem) → IsNext s t (all_spelled is) e → IsAt s e i
      → 4 ≤ length (spelled i) → (v : Tree) (more : List ℕ) → Fits s t v
      → bytes_of s t v ≡ all_spelled is ++ (spelled i ++ more) → (rest : List NodeItem)
      → node_items_of s t v ≡ is ++ rest → (rs : List NodeItem) × (node_items_of s t v ≡ (is ++ i ∷ []) ++ rs)
  by_bytes is e i next at some v more f bytes [] known =
      let a : all_spelled is ++ all_spelled [] ≡ all_spelled is ++ (spelled i ++ more) =
      sym (bytes_behind s t v is [] f known) ∙ bytes in
      let b = (same_front (all_spelled is) (all_spelled is) [] (spelled i ++ more) refl a).1 in
      let n : 0 ≡ length (spelled i ++ more) = ap (λ (z : List ℕ). length z) b in
      absurd (omega (arith, n, length-append (spelled i) more, some))
  by_bytes is e i next at some v more f bytes (r ∷ rs) known =
      let a : all_spelled is ++ (spelled r ++ all_spelled rs) ≡ all_spelled is ++ (spelled i ++ more) =
      sym (bytes_behind s t v is (r ∷ rs) f known) ∙ bytes in
      let b = (same_front (all_spelled is) (all_spelled is) (spelled r ++ all_spelled rs) (spelled i ++ more) refl a).1
      in
      let same : r ≡ i = same_at s e r i (all_spelled rs) more (here is e next v r rs f known) at b in
      (rs, known ∙ ap (λ (x : NodeItem). is ++ x ∷ rs) same ∙ sym (append_assoc is (i ∷ []) rs))

  by_items : (is : List NodeItem) (e : Entry) (i : NodeItem) → IsNext s t (all_spelled is) e → IsAt s e i
      → (v : Tree) (more : List ItemView) → Fits s t v → (rest : List NodeItem) → items rest ≡ i.item ∷ more
      → node_items_of s t v ≡ is ++ rest → (rs : List NodeItem) × (node_items_of s t v ≡ (is ++ i ∷ []) ++ rs)
  by_items is e i next at v more f [] views known = absurd (not_none i.item more views)
  by_items is e i next at v more f (r ∷ rs) views known =
      let mine : IsAt s e r = here is e next v r rs f known in
      let view : r.item ≡ i.item = ap (first_or i.item) views in
      let same : r ≡ i = node_item s r i (mine.kind ∙ sym at.kind) view in
      (rs, known ∙ ap (λ (x : NodeItem). is ++ x ∷ rs) same ∙ sym (append_assoc is (i ∷ []) rs))

  -- a further item at the entry that is next
  pub begin_more : (is : List NodeItem) (e : Entry) (i : NodeItem) → Begin s t is → IsNext s t (all_spelled is) e
      → IsAt s e i → 4 ≤ length (spelled i) → Begin s t (is ++ i ∷ [])
  begin_more is e i begin next at some = record {
    by_bytes = λ v more f bytes.
        let split : bytes_of s t v ≡ all_spelled is ++ (spelled i ++ more) =
        bytes ∙ ap (λ (z : List ℕ). z ++ more) (spelled_more is i) ∙ append_assoc (all_spelled is) (spelled i) more in
        let k = begin.by_bytes v (spelled i ++ more) f split in
        by_bytes is e i next at some v more f split k.0 k.1;
    by_items = λ v more f views.
        let split : items_of s t v ≡ items is ++ i.item ∷ more =
        views ∙ ap (λ (z : List ItemView). z ++ more) (items_joined is (i ∷ []))
        ∙ append_assoc (items is) (i.item ∷ []) more in
        let k = begin.by_items v (i.item ∷ more) f split in
        let rest : items k.0 ≡ i.item ∷ more =
        items_behind is k.0 (i.item ∷ more)
        (sym (ap (λ (z : List NodeItem). items z) k.1) ∙ split) in
        by_items is e i next at v more f k.0 rest k.1;
  }

  -- the first items of a value begin each that has their bytes or these items
  pub fronts_begin : (v : Tree) → Fits s t v → (rs is : List NodeItem) → node_items_of s t v ≡ is ++ rs
      → Begin s t is → Begin s t (is ++ rs)
  fronts_begin v f [] is e begin = subst (λ (z : List NodeItem). Begin s t z) (sym (append-nil is)) begin
  fronts_begin v f (r ∷ rs) is e begin =
      let next = next_stands s t v is r rs f e in
      let left : AreSome (r ∷ rs) =
      some_behind is (r ∷ rs) (subst (λ (z : List NodeItem). AreSome z) e (some_of s t v f)) in
      let grouped : is ++ r ∷ rs ≡ (is ++ r ∷ []) ++ rs = sym (append_assoc is (r ∷ []) rs) in
      subst (λ (z : List NodeItem). Begin s t z) (sym grouped)
      (fronts_begin v f rs (is ++ r ∷ []) (e ∙ grouped)
      (begin_more is next.0 r begin next.1 next.2 left.0))

  -- where the items are all of a value's, so are they of each that has these items
  pub whole_items : (is : List NodeItem) → Begin s t is → (v : Tree) → Fits s t v
      → bytes_of s t v ≡ all_spelled is → node_items_of s t v ≡ is
  whole_items is begin v f e =
      let k = begin.by_bytes v [] f (e ∙ sym (append-nil (all_spelled is))) in
      let left : AreSome k.0 = some_behind is k.0 (subst (λ (z : List NodeItem). AreSome z) k.1 (some_of s t v f)) in
      let a : all_spelled is ++ all_spelled k.0 ≡ all_spelled is ++ [] =
      sym (bytes_behind s t v is k.0 f k.1) ∙ e ∙ sym (append-nil (all_spelled is)) in
      let none : k.0 ≡ [] =
      no_more k.0 left (same_front (all_spelled is) (all_spelled is) (all_spelled k.0) [] refl a).1 in
      k.1 ∙ ap (λ (z : List NodeItem). is ++ z) none ∙ append-nil is

  pub none_left : (rest : List NodeItem) → items rest ≡ [] → rest ≡ []
  none_left [] e = refl
  none_left (r ∷ rest) e = absurd (not_none r.item (items rest) (sym e))

  pub same_items : (v w : Tree) → Fits s t v → Fits s t w → items_of s t v ≡ items_of s t w → v ≡ w
  same_items v w f g e =
      let is : List NodeItem = node_items_of s t v in
      let begin : Begin s t is = fronts_begin v f is [] refl none_begin in
      let k = begin.by_items w [] g (sym e ∙ sym (append-nil (items is))) in
      let rest : items k.0 ≡ [] =
      items_behind is k.0 []
      (sym (ap (λ (z : List NodeItem). items z) k.1) ∙ sym e ∙ sym (append-nil (items is))) in
      let all : node_items_of s t w ≡ is =
      k.1 ∙ ap (λ (z : List NodeItem). is ++ z) (none_left k.0 rest) ∙ append-nil is in
      (equal s t v w f g).1 (sym (items_join s t v f)
      ∙ ap (λ (z : List NodeItem). all_spelled z) (sym all) ∙ items_join s t w g)

pub items_tell_value : (s : List KindView) → ItemsTellValue s
items_tell_value s t v w f g e = same_items s t v w f g e
