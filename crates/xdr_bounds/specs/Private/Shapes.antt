-- What decides how many bytes the values of a kind have: those of a node itself, and the kinds of its parts.
use Rattle.std.specs.Prelude.{◌≡◌, ℕ, zero, suc, ◌+◌, ◌*◌, ◌<◌, ◌≤◌, List, [], ◌∷◌, ◌⊎◌, length, map, replicate, true}
use Rattle.std.specs.Prelude.{slice_index_or}
use Rattle.xdr_types.specs.Kinds.{KindView, Part, kind_at}
use Rattle.xdr_types.specs.Tree.{Head}
use Rattle.xdr_types.specs.Fits.{is_legal, parts}
use Rattle.xdr_types.specs.Spelling.{own}
use Rattle.xdr_bounds.specs.Private.Amounts.{places_of, IsIn, total, highest, lowest}
use Rattle.xdr_bounds.specs.declared.shape.Shape.{Shape}
use Rattle.xdr_bounds.specs.declared.shape.Shape.TheVariants as shape

-- the places of the kinds of parts
abbrev pub kinds_of : List Part → List ℕ
kinds_of ps = map (λ (p : Part). p.kind) ps

-- some node of the kind has n bytes by itself, and parts of the kinds qs (RFC 4506 sections 4.1 to 4.19)
abbrev pub IsForm : List KindView → KindView → (n : ℕ) → (qs : List ℕ) → Type 0
IsForm kinds k n qs =
    (h : Head) × (is_legal kinds k h ≡ true) × (length (own k h) ≡ n) × (kinds_of (parts k h) ≡ qs)

-- what nodes of a shape may have
abbrev pub Covers : Shape → (n : ℕ) → (qs : List ℕ) → Type 0
Covers (shape.Alone least greatest) n qs = (qs ≡ []) × (least ≤ n) × (n ≤ greatest)
Covers (shape.Items item count) n qs = (n ≡ 0) × (qs ≡ replicate count item.place)
Covers (shape.Fields fields) n qs = (n ≡ 0) × (qs ≡ places_of fields.items)
Covers (shape.OneOf parts) n qs = (n ≡ 4) × (q : ℕ) × IsIn q (places_of parts.items) × (qs ≡ q ∷ [])
Covers (shape.UpTo item most) n qs = (n ≡ 4) × (c : ℕ) × (c ≤ most) × (qs ≡ replicate c item.place)

-- what some node of a shape has
abbrev pub Offers : Shape → (n : ℕ) → (qs : List ℕ) → Type 0
Offers (shape.Alone least greatest) n qs = (qs ≡ []) × ((n ≡ least) ⊎ (n ≡ greatest))
Offers s n qs = Covers s n qs

-- the shape of a kind
pub record IsShape (kinds : List KindView) (k : KindView) (s : Shape) : Type 0 where
  pub covers : (n : ℕ) (qs : List ℕ) → IsForm kinds k n qs → Covers s n qs
  pub offers : (n : ℕ) (qs : List ℕ) → Offers s n qs → IsForm kinds k n qs

-- the shapes of all kinds, each at the place of its kind
pub record AreShapes (kinds : List KindView) (shapes : List Shape) : Type 0 where
  pub lengths : length shapes ≡ length kinds
  pub each : (place : ℕ) (s : Shape) → place < length shapes → s ≡ slice_index_or shapes place s
      → IsShape kinds (kind_at kinds place) s

-- the fewest bytes of a shape, by those of the kinds of its parts
abbrev pub least_over : (ℕ → ℕ) → Shape → ℕ
least_over f (shape.Alone least greatest) = least
least_over f (shape.Items item count) = f item.place * count
least_over f (shape.Fields fields) = total f (places_of fields.items)
least_over f (shape.OneOf parts) = lowest f (places_of parts.items) + 4
least_over f (shape.UpTo item most) = 4

-- the most bytes of a shape, by those of the kinds of its parts
abbrev pub greatest_over : (ℕ → ℕ) → Shape → ℕ
greatest_over f (shape.Alone least greatest) = greatest
greatest_over f (shape.Items item count) = f item.place * count
greatest_over f (shape.Fields fields) = total f (places_of fields.items)
greatest_over f (shape.OneOf parts) = highest f (places_of parts.items) + 4
greatest_over f (shape.UpTo item most) = f item.place * most + 4

-- so many items need their kind, where there are some
abbrev pub item_needed : (item count : ℕ) → List ℕ
item_needed item zero = []
item_needed item (suc n) = item ∷ []

-- the places whose greatest counts a shape's own is made of
abbrev pub needs : Shape → List ℕ
needs (shape.Alone least greatest) = []
needs (shape.Items item count) = item_needed item.place count
needs (shape.Fields fields) = places_of fields.items
needs (shape.OneOf parts) = places_of parts.items
needs (shape.UpTo item most) = item_needed item.place most
