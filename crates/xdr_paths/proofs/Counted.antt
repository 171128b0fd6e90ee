-- Items of an array, one after another.
use Rattle.std.proofs.Common.{◌≡◌, ℕ, zero, suc, ◌+◌, ◌-◌, ◌*◌, ◌<◌, ◌≤◌, List, ◌∷◌, length, refl, sym, ap, subst}
use Rattle.std.proofs.Common.{◌∙◌, arith, Some, None, replicate}
use Rattle.std.specs.Prelude.{slice_get}
use Rattle.std.proofs.lemmas.Bool.{false≢true}
use Rattle.std.proofs.lemmas.List.{length-append}
use Rattle.xdr_types.specs.Kinds.{KindView, Part, kind_at}
use Rattle.xdr_types.specs.Tree as value
use Rattle.xdr_types.specs.Tree.{Head, Values, Tree}
use Rattle.xdr_types.specs.Fits.{Fits, parts, item_part}
use Rattle.xdr_types.specs.Spelling.{own, spelling, bytes_of}
use Rattle.xdr_types.specs.Within.{Bounds}
use Rattle.xdr_paths.specs.Nodes.{Node, nodes}
use Rattle.xdr_paths.specs.Private.Standing.{Spells, StandsAs, IsItem, ItemBegins, HasItems}
use Rattle.xdr_paths.proofs.Standing.{first_of, rest_of, fits_of}

module _ (kinds : List KindView) (limits : Bounds) (bytes : List ℕ) (item : ℕ) where
  -- the first item, where it ends, and the items behind it
  pub record Cut (at depth left : ℕ) (vs : Values) : Type 0 where
    pub first : Node
    pub is : IsItem kinds limits bytes item at depth first
    pub others : Values
    pub end : ℕ
    pub end_is : end ≡ at + length (bytes_of kinds item (first.head, first.inner))
    pub spells : Spells kinds limits bytes end depth (replicate left (item_part item)) others
    pub nodes_are : nodes kinds at depth (replicate (suc left) (item_part item)) vs
        ≡ first ∷ nodes kinds end depth (replicate left (item_part item)) others

  pub cut : (at depth left : ℕ) (vs : Values)
      → Spells kinds limits bytes at depth (replicate (suc left) (item_part item)) vs → Cut at depth left vs
  cut at depth left value.none s = absurd (false≢true s.fits)
  cut at depth left (value.node h v w) s =
      let k : KindView = kind_at kinds item in
      let p : Part = item_part item in
      let ps : List Part = replicate left p in
      record {
        first = record { place = at; depth = depth; part = p; head = h; inner = v };
        is = (refl, refl, refl, first_of kinds limits bytes at depth p ps h v w s);
        others = w;
        end = at + length (own k h) + length (spelling kinds (parts k h) v);
        end_is = omega (arith, length-append (own k h) (spelling kinds (parts k h) v));
        spells = rest_of kinds limits bytes at depth p ps h v w s;
        nodes_are = refl;
      }

  -- an item, as a node of its kind
  pub stands_as : (at depth : ℕ) (n : Node) → IsItem kinds limits bytes item at depth n
      → StandsAs kinds limits bytes item at n
  stands_as at depth n is = (is.3, is.0, ap (λ (p : Part). p.kind) is.2)

  -- where all have one size, the item with an index begins that many sizes on
  pub sized_item : (size : ℕ) → ((t : Tree) → Fits kinds item t → length (bytes_of kinds item t) ≡ size)
      → (index left at depth : ℕ) (vs : Values) → index < left
      → Spells kinds limits bytes at depth (replicate left (item_part item)) vs
      → (m : Node) × (slice_get (nodes kinds at depth (replicate left (item_part item)) vs) index ≡ Some m)
      × IsItem kinds limits bytes item (at + index * size) depth m
  sized_item size all index zero at depth vs less s = absurd (omega (arith, less))
  sized_item size all zero (suc left) at depth vs less s =
      let c = cut at depth left vs s in
      let here : at ≡ at + 0 * size = omega arith in (
        c.first,
        ap (λ (ns : List Node). slice_get ns 0) c.nodes_are,
        subst (λ (a : ℕ). IsItem kinds limits bytes item a depth c.first) here c.is,
      )
  sized_item size all (suc index) (suc left) at depth vs less s =
      let c = cut at depth left vs s in
      let stood = stands_as at depth c.first c.is in
      let f : Fits kinds item (c.first.head, c.first.inner) =
      subst (λ (t : ℕ). Fits kinds t (c.first.head, c.first.inner)) stood.2
      (fits_of kinds limits bytes c.first stood.0) in
      let long : length (bytes_of kinds item (c.first.head, c.first.inner)) ≡ size =
      all (c.first.head, c.first.inner) f in
      let r = sized_item size all index left c.end depth c.others (omega (arith, less)) c.spells in
      let far : c.end + index * size ≡ at + suc index * size = omega (arith, c.end_is, long) in (
        r.0,
        ap (λ (ns : List Node). slice_get ns (suc index)) c.nodes_are ∙ r.1,
        subst (λ (a : ℕ). IsItem kinds limits bytes item a depth r.0) far r.2,
      )

  -- ---- one item after another

  -- so many items on, what is left of the items has the one that is looked for
  abbrev pub ItemsLeft : (count at index place left : ℕ) → Type 0
  ItemsLeft count at index place left =
      (depth : ℕ) (vs : Values) → Spells kinds limits bytes at depth (replicate count (item_part item)) vs
      → (behind : ℕ) × (ws : Values) × (left < behind)
      × Spells kinds limits bytes place depth (replicate behind (item_part item)) ws
      × (slice_get (nodes kinds at depth (replicate count (item_part item)) vs) index
      ≡ slice_get (nodes kinds place depth (replicate behind (item_part item)) ws) left)

  -- an item is left
  pub item_left : (count at index place left : ℕ) → HasItems kinds limits bytes item count at
      → ItemsLeft count at index place left → (n : Node) × StandsAs kinds limits bytes item place n
  item_left count at index place left some keeps =
      let i = keeps some.0 some.1 some.2 in one i.0 i.1 i.2 i.3
    where
      one : (behind : ℕ) (ws : Values) → left < behind
          → Spells kinds limits bytes place some.0 (replicate behind (item_part item)) ws
          → (n : Node) × StandsAs kinds limits bytes item place n
      one zero ws less s = absurd (omega (arith, less))
      one (suc behind) ws less s =
          let c = cut place some.0 behind ws s in
          (c.first, stands_as place some.0 c.first c.is)

  -- one is passed
  pub item_passed : (count at index place left end : ℕ) → 0 < left → ItemsLeft count at index place left
      → ((n : Node) → StandsAs kinds limits bytes item place n
      → end ≡ place + length (bytes_of kinds item (n.head, n.inner)))
      → ItemsLeft count at index end (left - 1)
  item_passed count at index place left end some keeps ends =
      λ depth vs s. let i = keeps depth vs s in one left depth vs i.0 i.1 some i.2 i.3 i.4
    where
      one : (left depth : ℕ) (vs : Values) (behind : ℕ) (ws : Values) → 0 < left → left < behind
          → Spells kinds limits bytes place depth (replicate behind (item_part item)) ws
          → slice_get (nodes kinds at depth (replicate count (item_part item)) vs) index
          ≡ slice_get (nodes kinds place depth (replicate behind (item_part item)) ws) left
          → (fewer : ℕ) × (us : Values) × (left - 1 < fewer)
          × Spells kinds limits bytes end depth (replicate fewer (item_part item)) us
          × (slice_get (nodes kinds at depth (replicate count (item_part item)) vs) index
          ≡ slice_get (nodes kinds end depth (replicate fewer (item_part item)) us) (left - 1))
      one zero depth vs behind ws some less s e = absurd (omega (arith, some))
      one left depth vs zero ws some less s e = absurd (omega (arith, less))
      one (suc left) depth vs (suc behind) ws some less s e =
          let c = cut place depth behind ws s in
          let far : c.end ≡ end = c.end_is ∙ sym (ends c.first (stands_as place depth c.first c.is)) in
          let left_is : left ≡ suc left - 1 = omega arith in (
            behind,
            c.others,
            omega (arith, less),
            subst (λ (a : ℕ). Spells kinds limits bytes a depth (replicate behind (item_part item)) c.others) far
                c.spells,
            e ∙ ap (λ (ns : List Node). slice_get ns (suc left)) c.nodes_are
                ∙ ap (λ (a : ℕ). slice_get (nodes kinds a depth (replicate behind (item_part item)) c.others) left) far
                ∙ ap (λ (k : ℕ). slice_get (nodes kinds end depth (replicate behind (item_part item)) c.others) k)
                left_is,
          )

  -- all before it are passed
  pub item_reached : (count at index place left : ℕ) → left ≡ 0 → ItemsLeft count at index place left
      → ItemBegins kinds limits bytes item count at index place
  item_reached count at index place left none keeps =
      λ depth vs s. let i = keeps depth vs s in one depth vs i.0 i.1 i.2 i.3
      (i.4 ∙ ap (λ (k : ℕ). slice_get (nodes kinds place depth (replicate i.0 (item_part item)) i.1) k) none)
    where
      one : (depth : ℕ) (vs : Values) (behind : ℕ) (ws : Values) → left < behind
          → Spells kinds limits bytes place depth (replicate behind (item_part item)) ws
          → slice_get (nodes kinds at depth (replicate count (item_part item)) vs) index
          ≡ slice_get (nodes kinds place depth (replicate behind (item_part item)) ws) 0
          → (m : Node) × (slice_get (nodes kinds at depth (replicate count (item_part item)) vs) index ≡ Some m)
          × IsItem kinds limits bytes item place depth m
      one depth vs zero ws less s e = absurd (omega (arith, less))
      one depth vs (suc behind) ws less s e =
          let c = cut place depth behind ws s in
          (c.first, e ∙ ap (λ (ns : List Node). slice_get ns 0) c.nodes_are, c.is)

  -- there are not so many
  pub no_item : (count index at depth : ℕ) (vs : Values) → count ≤ index
      → slice_get (nodes kinds at depth (replicate count (item_part item)) vs) index ≡ None
  no_item zero index at depth value.none less = refl
  no_item zero index at depth (value.node h v w) less = refl
  no_item (suc count) index at depth value.none less = refl
  no_item (suc count) zero at depth (value.node h v w) less = absurd (omega (arith, less))
  no_item (suc count) (suc index) at depth (value.node h v w) less =
      let k : KindView = kind_at kinds item in
      no_item count index (at + length (own k h) + length (spelling kinds (parts k h) v)) depth w
      (omega (arith, less))
