-- From the forms of nodes to the counts of bytes of whole values.
use Rattle.std.proofs.Common.{◌≡◌, ℕ, ◌+◌, ◌<◌, ◌≤◌, List, [], ◌∷◌, ◌++◌, length, ◌⊎◌, inl, inr, map, replicate, Bool}
use Rattle.std.proofs.Common.{true}
use Rattle.std.proofs.Common.{false, refl, sym, ap, ◌∙◌, subst, arith}
use Rattle.std.specs.List.{AllByRecursion}
use Rattle.std.proofs.lemmas.Bool.{false≢true, and_parts as both, and_from as both_of}
use Rattle.std.proofs.lemmas.List.{length-append}
use Rattle.xdr_types.specs.Kinds.{KindView, Part, kind_at}
use Rattle.xdr_types.specs.Tree as value
use Rattle.xdr_types.specs.Tree.{Head, Values, Tree}
use Rattle.xdr_types.specs.Fits.{Fits, fits, fit, is_legal, parts}
use Rattle.xdr_types.specs.Spelling.{own, spelling, bytes_of}
use Rattle.xdr_bounds.specs.Bounds.{IsReached, HasAtLeast, HasAtMost}
use Rattle.xdr_bounds.specs.Private.Amounts.{IsIn, total}
use Rattle.xdr_bounds.specs.Private.Shapes.{kinds_of, IsForm}

record Split (kinds : List KindView) (p : Part) (ps : List Part) (h : Head) (inner rest : Values) : Type 0 where
  legal : is_legal kinds (kind_at kinds p.kind) h ≡ true
  inside : fit kinds (parts (kind_at kinds p.kind) h) inner ≡ true
  after : fit kinds ps rest ≡ true

split : (kinds : List KindView) (p : Part) (ps : List Part) (h : Head) (inner rest : Values)
    → fit kinds (p ∷ ps) (value.node h inner rest) ≡ true → Split kinds p ps h inner rest
split kinds p ps h inner rest e =
    let k = kind_at kinds p.kind in
    let first = both (fits kinds p.kind (h, inner)) (fit kinds ps rest) e in
    let node = both (is_legal kinds k h) (fit kinds (parts k h) inner) first.0 in
    record { legal = node.0; inside = node.1; after = first.1 }

sized : (kinds : List KindView) (p : Part) (ps : List Part) (t : Tree) (rest : Values)
    → length (spelling kinds (p ∷ ps) (value.node t.0 t.1 rest))
    ≡ length (bytes_of kinds p.kind t) + length (spelling kinds ps rest)
sized kinds p ps t rest = length-append (bytes_of kinds p.kind t) (spelling kinds ps rest)

node_sized : (kinds : List KindView) (place : ℕ) (t : Tree)
    → length (bytes_of kinds place t)
    ≡ length (own (kind_at kinds place) t.0) + length (spelling kinds (parts (kind_at kinds place) t.0) t.1)
node_sized kinds place t =
    length-append (own (kind_at kinds place) t.0) (spelling kinds (parts (kind_at kinds place) t.0) t.1)

-- ---- at least

-- numbers that no form undercuts, with those of its parts
abbrev pub AreUnder : List KindView → (ℕ → ℕ) → Type 0
AreUnder kinds f =
    (place n : ℕ) (qs : List ℕ) → IsForm kinds (kind_at kinds place) n qs → f place ≤ n + total f qs

module _ (kinds : List KindView) (f : ℕ → ℕ) (below : AreUnder kinds f) where
  under : (ps : List Part) (vs : Values) → fit kinds ps vs ≡ true
      → total f (kinds_of ps) ≤ length (spelling kinds ps vs)
  under [] value.none e = omega arith
  under [] (value.node h inner rest) e = absurd (false≢true e)
  under (p ∷ ps) value.none e = absurd (false≢true e)
  under (p ∷ ps) (value.node h inner rest) e =
      let s = split kinds p ps h inner rest e in
      let k = kind_at kinds p.kind in
      let here : f p.kind ≤ length (own k h) + total f (kinds_of (parts k h)) =
      below p.kind (length (own k h)) (kinds_of (parts k h)) (h, s.legal, refl, refl) in
      let inside : total f (kinds_of (parts k h)) ≤ length (spelling kinds (parts k h) inner) =
      under (parts k h) inner s.inside in
      let after : total f (kinds_of ps) ≤ length (spelling kinds ps rest) = under ps rest s.after in
      omega (arith, sized kinds p ps (h, inner) rest, node_sized kinds p.kind (h, inner))

  -- so no value undercuts them
  pub at_least : (place : ℕ) → HasAtLeast kinds place (f place)
  at_least place t e =
      let k = kind_at kinds place in
      let node = both (is_legal kinds k t.0) (fit kinds (parts k t.0) t.1) e in
      let here : f place ≤ length (own k t.0) + total f (kinds_of (parts k t.0)) =
      below place (length (own k t.0)) (kinds_of (parts k t.0)) (t.0, node.0, refl, refl) in
      let inside : total f (kinds_of (parts k t.0)) ≤ length (spelling kinds (parts k t.0) t.1) =
      under (parts k t.0) t.1 node.1 in
      omega (arith, node_sized kinds place t)

-- ---- exactly

parts_reached : (kinds : List KindView) (f : ℕ → ℕ) (ps : List Part)
    → ((q : ℕ) → IsIn q (kinds_of ps) → IsReached kinds q (f q))
    → (vs : Values) × (fit kinds ps vs ≡ true) × (length (spelling kinds ps vs) ≡ total f (kinds_of ps))
parts_reached kinds f [] each = (value.none, refl, refl)
parts_reached kinds f (p ∷ ps) each =
    let one = each p.kind (inl refl) in
    let rest = parts_reached kinds f ps (λ q i. each q (inr i)) in
    let here : length (bytes_of kinds p.kind one.0) ≡ f p.kind = one.2 in
    let after : length (spelling kinds ps rest.0) ≡ total f (kinds_of ps) = rest.2 in (
      value.node one.0.0 one.0.1 rest.0,
      both_of (fits kinds p.kind one.0) (fit kinds ps rest.0) one.1 rest.1,
      omega (arith, sized kinds p ps one.0 rest.0),
    )

-- what a form has with values of its parts is reached
pub node_reached : (kinds : List KindView) (place n : ℕ) (qs : List ℕ) (f : ℕ → ℕ)
    → IsForm kinds (kind_at kinds place) n qs → ((q : ℕ) → IsIn q qs → IsReached kinds q (f q))
    → IsReached kinds place (n + total f qs)
node_reached kinds place n qs f form each =
    let k = kind_at kinds place in
    let h = form.0 in
    let found = parts_reached kinds f (parts k h)
    (λ q i. each q (subst (λ (xs : List ℕ). IsIn q xs) form.3 i)) in
    let own_is : length (own k h) ≡ n = form.2 in
    let all : length (spelling kinds (parts k h) found.0) ≡ total f qs = found.2 ∙ ap (total f) form.3 in (
      (h, found.0),
      both_of (is_legal kinds k h) (fit kinds (parts k h) found.0) form.1 found.1,
      omega (arith, node_sized kinds place (h, found.0)),
    )

-- ---- at most

parts_most : (kinds : List KindView) (f : ℕ → ℕ) (ps : List Part)
    → ((q : ℕ) → IsIn q (kinds_of ps) → HasAtMost kinds q (f q)) → (vs : Values) → fit kinds ps vs ≡ true
    → length (spelling kinds ps vs) ≤ total f (kinds_of ps)
parts_most kinds f [] each value.none e = omega arith
parts_most kinds f [] each (value.node h inner rest) e = absurd (false≢true e)
parts_most kinds f (p ∷ ps) each value.none e = absurd (false≢true e)
parts_most kinds f (p ∷ ps) each (value.node h inner rest) e =
    let first = both (fits kinds p.kind (h, inner)) (fit kinds ps rest) e in
    let here : length (bytes_of kinds p.kind (h, inner)) ≤ f p.kind = each p.kind (inl refl) (h, inner) first.0 in
    let after : length (spelling kinds ps rest) ≤ total f (kinds_of ps) =
    parts_most kinds f ps (λ q i. each q (inr i)) rest first.1 in
    omega (arith, sized kinds p ps (h, inner) rest)

-- a number that no form passes, with the most of its parts, is passed by no value
pub node_most : (kinds : List KindView) (place most : ℕ) (f : ℕ → ℕ)
    → ((n : ℕ) (qs : List ℕ) → IsForm kinds (kind_at kinds place) n qs
    → ((q : ℕ) → IsIn q qs → HasAtMost kinds q (f q)) × (n + total f qs ≤ most))
    → HasAtMost kinds place most
node_most kinds place most f each t e =
    let k = kind_at kinds place in
    let node = both (is_legal kinds k t.0) (fit kinds (parts k t.0) t.1) e in
    let form = each (length (own k t.0)) (kinds_of (parts k t.0)) (t.0, node.0, refl, refl) in
    let inside : length (spelling kinds (parts k t.0) t.1) ≤ total f (kinds_of (parts k t.0)) =
    parts_most kinds f (parts k t.0) form.0 t.1 node.1 in
    let here : length (own k t.0) + total f (kinds_of (parts k t.0)) ≤ most = form.1 in
    omega (arith, node_sized kinds place t)

-- ---- more and more

-- some value of the kind has so many bytes or more
abbrev pub HasMore : List KindView → (place n : ℕ) → Type 0
HasMore kinds place n = (t : Tree) × Fits kinds place t × (n ≤ length (bytes_of kinds place t))

all_valued : (kinds : List KindView) (ps : List Part) → ((q : ℕ) → IsIn q (kinds_of ps) → (t : Tree) × Fits kinds q t)
    → (vs : Values) × (fit kinds ps vs ≡ true)
all_valued kinds [] each = (value.none, refl)
all_valued kinds (p ∷ ps) each =
    let one = each p.kind (inl refl) in
    let rest = all_valued kinds ps (λ q i. each q (inr i)) in
    (value.node one.0.0 one.0.1 rest.0, both_of (fits kinds p.kind one.0) (fit kinds ps rest.0) one.1 rest.1)

parts_more : (kinds : List KindView) (ps : List Part) (q n : ℕ) → IsIn q (kinds_of ps)
    → ((p : ℕ) → IsIn p (kinds_of ps) → (t : Tree) × Fits kinds p t) → HasMore kinds q n
    → (vs : Values) × (fit kinds ps vs ≡ true) × (n ≤ length (spelling kinds ps vs))
parts_more kinds [] q n i each more = absurd i
parts_more kinds (p ∷ ps) q n (inl is) each more =
    let one : HasMore kinds p.kind n = subst (λ (z : ℕ). HasMore kinds z n) is more in
    let rest = all_valued kinds ps (λ r i. each r (inr i)) in
    let here : n ≤ length (bytes_of kinds p.kind one.0) = one.2 in (
      value.node one.0.0 one.0.1 rest.0,
      both_of (fits kinds p.kind one.0) (fit kinds ps rest.0) one.1 rest.1,
      omega (arith, sized kinds p ps one.0 rest.0),
    )
parts_more kinds (p ∷ ps) q n (inr i) each more =
    let one = each p.kind (inl refl) in
    let rest = parts_more kinds ps q n i (λ r j. each r (inr j)) more in
    let after : n ≤ length (spelling kinds ps rest.0) = rest.2 in (
      value.node one.0.0 one.0.1 rest.0,
      both_of (fits kinds p.kind one.0) (fit kinds ps rest.0) one.1 rest.1,
      omega (arith, sized kinds p ps one.0 rest.0),
    )

-- a part with so many bytes is in a value with so many more as the node has by itself
pub node_more : (kinds : List KindView) (place n : ℕ) (h : Head) (q m : ℕ)
    → is_legal kinds (kind_at kinds place) h ≡ true
    → length (own (kind_at kinds place) h) ≡ n → IsIn q (kinds_of (parts (kind_at kinds place) h))
    → ((p : ℕ) → IsIn p (kinds_of (parts (kind_at kinds place) h)) → (t : Tree) × Fits kinds p t) → HasMore kinds q m
    → HasMore kinds place (n + m)
node_more kinds place n h q m legal own_is i each more =
    let k = kind_at kinds place in
    let found = parts_more kinds (parts k h) q m i each more in
    let inside : m ≤ length (spelling kinds (parts k h) found.0) = found.2 in (
      (h, found.0),
      both_of (is_legal kinds k h) (fit kinds (parts k h) found.0) legal found.1,
      omega (arith, node_sized kinds place (h, found.0)),
    )
