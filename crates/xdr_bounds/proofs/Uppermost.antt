-- The greatest counts of bytes, by the shapes of kinds.
use Rattle.std.proofs.Common.{◌≡◌, ℕ, zero, suc, ◌+◌, ◌*◌, ◌^◌, ◌<◌, ◌≤◌, ◌&&◌, List, [], ◌∷◌, length, map, replicate}
use Rattle.std.proofs.Common.{◌⊎◌, inl, inr, Bool, true, false, Option, Some, None, refl, sym, ap, ◌∙◌, subst, arith}
use Rattle.std.specs.List.{AllByRecursion}
use Rattle.std.proofs.lemmas.Bool.{false≢true, and_parts as both}
use Rattle.std.proofs.lemmas.Nat.{mul-le}
use Rattle.xdr_types.specs.Kinds as xdr
use Rattle.xdr_types.specs.Kinds.{KindView, Part, Branch, kind_at}
use Rattle.xdr_types.specs.Tree as value
use Rattle.xdr_types.specs.Tree.{Head, Tree}
use Rattle.xdr_types.specs.Fits.{Fits, fit, is_legal, parts, item_part}
use Rattle.xdr_types.specs.Spelling.{own, bytes_of}
use Rattle.xdr_types.specs.Height.{height, IsHigher}
use Rattle.xdr_types.specs.Laws.{EachKindHasAValue}
use Rattle.xdr_bounds.specs.Bounds.{IsReached, HasAtMost, IsGreatest, IsUnbounded}
use Rattle.xdr_bounds.specs.Private.Amounts.{Amounts, Shows, IsIn, places_of, total, highest, amount_at}
use Rattle.xdr_bounds.specs.Private.Shapes.{kinds_of, IsForm, Covers, Offers, IsShape, AreShapes, greatest_over, needs}
use Rattle.xdr_bounds.specs.Private.Rounds.{is_done, all_done, IsKnown, AreKnown, AreSound, AreSettled}
use Rattle.xdr_bounds.specs.declared.shape.Shape.{Shape}
use Rattle.xdr_bounds.specs.declared.shape.Shape.TheVariants as shape
use Rattle.xdr_bounds.proofs.Forms.{node_reached, node_most, node_more, HasMore}
use Rattle.xdr_bounds.proofs.Sums.{total-replicate, in-replicate, highest-high, highest-met}
use Rattle.xdr_bounds.proofs.Least.{Offered, element}

-- ---- one step

covers_greatest : (s : Shape) (f : ℕ → ℕ) (n : ℕ) (qs : List ℕ) → Covers s n qs → n + total f qs ≤ greatest_over f s
covers_greatest (shape.Alone least greatest) f n qs h =
    let high : n ≤ greatest = h.2 in
    let none : total f qs ≡ 0 = ap (total f) h.0 in omega arith
covers_greatest (shape.Items item count) f n qs h =
    let all : total f qs ≡ f item.place * count = ap (total f) h.1 ∙ total-replicate f item.place count in
    let is : n ≡ 0 = h.0 in omega arith
covers_greatest (shape.Fields fields) f n qs h =
    let all : total f qs ≡ total f (places_of fields.items) = ap (total f) h.1 in
    let is : n ≡ 0 = h.0 in omega arith
covers_greatest (shape.OneOf parts) f n qs h =
    let all : total f qs ≡ f h.1 + 0 = ap (total f) h.3 in
    let is : n ≡ 4 = h.0 in
    omega (arith, highest-high f (places_of parts.items) h.1 h.2)
covers_greatest (shape.UpTo item most) f n qs h =
    let all : total f qs ≡ f item.place * h.1 = ap (total f) h.3 ∙ total-replicate f item.place h.1 in
    let is : n ≡ 4 = h.0 in
    let few : f item.place * h.1 ≤ f item.place * most =
    mul-le (f item.place) h.1 (f item.place) most (omega arith) h.2 in omega arith

offers_greatest : (s : Shape) (f : ℕ → ℕ) (n : ℕ) (qs : List ℕ) → Covers s n qs → Offered s f (greatest_over f s)
offers_greatest (shape.Alone least greatest) f n qs h =
    record { n = greatest; qs = []; offers = (refl, inr refl); sum = omega arith }
offers_greatest (shape.Items item count) f n qs h =
    record {
      n = 0;
      qs = replicate count item.place;
      offers = (refl, refl);
      sum = omega (arith, total-replicate f item.place count);
    }
offers_greatest (shape.Fields fields) f n qs h =
    record { n = 0; qs = places_of fields.items; offers = (refl, refl); sum = omega arith }
offers_greatest (shape.OneOf parts) f n qs h =
    let met = highest-met f (places_of parts.items) h.1 h.2 in
    record { n = 4; qs = met.0 ∷ []; offers = (refl, met.0, met.1, refl); sum = omega (arith, met.2) }
offers_greatest (shape.UpTo item most) f n qs h =
    record {
      n = 4;
      qs = replicate most item.place;
      offers = (refl, most, omega arith, refl);
      sum = omega (arith, total-replicate f item.place most);
    }

-- the parts that a node has are among those that its shape needs
covers_needs : (s : Shape) (n : ℕ) (qs : List ℕ) (q : ℕ) → Covers s n qs → IsIn q qs → IsIn q (needs s)
covers_needs (shape.Alone least greatest) n qs q h i = subst (λ (xs : List ℕ). IsIn q xs) h.0 i
covers_needs (shape.Items item zero) n qs q h i = subst (λ (xs : List ℕ). IsIn q xs) h.1 i
covers_needs (shape.Items item (suc c)) n qs q h i =
    inl (in-replicate q item.place (suc c) (subst (λ (xs : List ℕ). IsIn q xs) h.1 i))
covers_needs (shape.Fields fields) n qs q h i = subst (λ (xs : List ℕ). IsIn q xs) h.1 i
covers_needs (shape.OneOf parts) n qs q h i =
    elim (subst (λ (xs : List ℕ). IsIn q xs) h.3 i) [
      | inl is ↦ subst (λ (p : ℕ). IsIn p (places_of parts.items)) (sym is) h.2
      | inr none ↦ absurd none
    ]
covers_needs (shape.UpTo item zero) n qs q h i =
    let none : h.1 ≡ 0 = omega (arith, h.2) in
    subst (λ (xs : List ℕ). IsIn q xs) (h.3 ∙ ap (λ (c : ℕ). replicate c item.place) none) i
covers_needs (shape.UpTo item (suc c)) n qs q h i =
    inl (in-replicate q item.place h.1 (subst (λ (xs : List ℕ). IsIn q xs) h.3 i))

-- what a shape has at most, by the greatest counts of what it needs, is its greatest count
pub greatest_of_parts : (kinds : List KindView) (place : ℕ) (s : Shape) (f : ℕ → ℕ)
    → IsShape kinds (kind_at kinds place) s → (t : Tree) → Fits kinds place t
    → ((q : ℕ) → IsIn q (needs s) → IsGreatest kinds q (f q)) → IsGreatest kinds place (greatest_over f s)
greatest_of_parts kinds place s f is t fitting each =
    let k = kind_at kinds place in
    let legal = (both (is_legal kinds k t.0) (fit kinds (parts k t.0) t.1) fitting).0 in
    let some = is.covers (length (own k t.0)) (kinds_of (parts k t.0)) (t.0, legal, refl, refl) in
    let off = offers_greatest s f (length (own k t.0)) (kinds_of (parts k t.0)) some in
    record {
      every = node_most kinds place (greatest_over f s) f (λ n qs form. let covered = is.covers n qs form in
          (λ q i. (each q (covers_needs s n qs q covered i)).every, covers_greatest s f n qs covered));
      one = subst (λ (m : ℕ). IsReached kinds place m) off.sum
          (node_reached kinds place off.n off.qs f (is.offers off.n off.qs off.offers)
          (λ q i. (each q (covers_needs s off.n off.qs q
          (is.covers off.n off.qs (is.offers off.n off.qs off.offers)) i)).one));
    }

all-done-in : (done : List Bool) (qs : List ℕ) → all_done done qs ≡ true → (q : ℕ) → IsIn q qs → is_done done q ≡ true
all-done-in done [] h q i = absurd i
all-done-in done (p ∷ ps) h q (inl is) =
    ap (is_done done) is ∙ (both (is_done done p) (all_done done ps) h).0
all-done-in done (p ∷ ps) h q (inr i) = all-done-in done ps (both (is_done done p) (all_done done ps) h).1 q i

one-undone : (done : List Bool) (qs : List ℕ) → all_done done qs ≡ false
    → (q : ℕ) × IsIn q qs × (is_done done q ≡ false)
one-undone done [] h = absurd (false≢true (sym h))
one-undone done (p ∷ ps) h = by_first (is_done done p) refl (one-undone done ps)
  where
    by_first : (b : Bool) → is_done done p ≡ b
        → (all_done done ps ≡ false → (q : ℕ) × IsIn q ps × (is_done done q ≡ false))
        → (q : ℕ) × IsIn q (p ∷ ps) × (is_done done q ≡ false)
    by_first false e later = (p, inl refl, e)
    by_first true e later =
        let rest = later (sym (ap (λ (b : Bool). b && all_done done ps) e) ∙ h) in
        (rest.0, inr rest.1, rest.2)

-- the number of a place: its greatest count, or 2^64 before it is done
abbrev number : (kinds : List KindView) (place : ℕ) (amount : Option ℕ) (b : Bool) → IsKnown kinds place amount b → ℕ
number kinds place amount true known = (known.after refl).0
number kinds place amount false known = 2 ^ 64

number_shown : (kinds : List KindView) (place : ℕ) (amount : Option ℕ) (b : Bool) (known : IsKnown kinds place amount b)
    → Amounts amount (number kinds place amount b known)
number_shown kinds place amount true known = (known.after refl).1
number_shown kinds place amount false known =
    subst (λ (a : Option ℕ). Amounts a (2 ^ 64)) (sym (known.before refl)) (omega arith)

number_greatest : (kinds : List KindView) (place : ℕ) (amount : Option ℕ) (b : Bool) (known : IsKnown kinds place
    amount b)
    → b ≡ true → IsGreatest kinds place (number kinds place amount b known)
number_greatest kinds place amount true known e = (known.after refl).2
number_greatest kinds place amount false known e = absurd (false≢true e)

-- one more place is done: its amount is what its shape has at most, by the amounts so far
pub step_known : (kinds : List KindView) (place : ℕ) (s : Shape) (amounts : List (Option ℕ)) (done : List Bool)
    (amount : Option ℕ) → IsShape kinds (kind_at kinds place) s → EachKindHasAValue kinds → place < length kinds
    → AreKnown kinds amounts done → all_done done (needs s) ≡ true
    → ((f : ℕ → ℕ) → Shows amounts f → Amounts amount (greatest_over f s)) → IsKnown kinds place amount true
step_known kinds place s amounts done amount is valued within known all by =
    let f : ℕ → ℕ = λ q. number kinds q (amount_at amounts q) (is_done done q) (known q) in
    let v = valued place within in
    record {
      after = λ e. (
        greatest_over f s,
        by f (λ q. number_shown kinds q (amount_at amounts q) (is_done done q) (known q)),
        greatest_of_parts kinds place s f is v.0 v.1
            (λ q i. number_greatest kinds q (amount_at amounts q) (is_done done q) (known q)
            (all-done-in done (needs s) all q i)),
      );
      before = λ e. absurd (false≢true (sym e));
    }

-- ---- what is never done

record Reaches (s : Shape) (q : ℕ) : Type 0 where
  n : ℕ
  qs : List ℕ
  offers : Offers s n qs
  has : IsIn q qs

-- each part that a shape needs is in some node
needs_offers : (s : Shape) (q : ℕ) → IsIn q (needs s) → Reaches s q
needs_offers (shape.Alone least greatest) q i = absurd i
needs_offers (shape.Items item zero) q i = absurd i
needs_offers (shape.Items item (suc c)) q (inl is) =
    record { n = 0; qs = replicate (suc c) item.place; offers = (refl, refl); has = inl is }
needs_offers (shape.Items item (suc c)) q (inr none) = absurd none
needs_offers (shape.Fields fields) q i = record { n = 0; qs = places_of fields.items; offers = (refl, refl); has = i }
needs_offers (shape.OneOf parts) q i =
    record { n = 4; qs = q ∷ []; offers = (refl, q, i, refl); has = inl refl }
needs_offers (shape.UpTo item zero) q i = absurd i
needs_offers (shape.UpTo item (suc c)) q (inl is) = record {
  n = 4;
  qs = replicate (suc c) item.place;
  offers = (refl, suc c, omega arith, refl);
  has = inl is;
}
needs_offers (shape.UpTo item (suc c)) q (inr none) = absurd none

below_all : (f : ℕ → ℕ) (top : ℕ) (ps : List Part) (q : ℕ) → AllByRecursion (λ (p : Part). f p.kind < top) ps
    → IsIn q (kinds_of ps) → f q < top
below_all f top [] q all i = absurd i
below_all f top (p ∷ ps) q all (inl is) = subst (λ (r : ℕ). f r < top) (sym is) all.0
below_all f top (p ∷ ps) q all (inr i) = below_all f top ps q all.1 i

pub kinds_of-replicate : (item n : ℕ) → kinds_of (replicate n (item_part item)) ≡ replicate n item
kinds_of-replicate item zero = refl
kinds_of-replicate item (suc n) = ap (λ (xs : List ℕ). item ∷ xs) (kinds_of-replicate item n)

-- a node has bytes of its own, or it is higher than its parts
rises : (kinds : List KindView) (f : ℕ → ℕ) (top : ℕ) (k : KindView) (h : Head) (q : ℕ) → IsHigher f k top
    → IsIn q (kinds_of (parts k h)) → (0 < length (own k h)) ⊎ (f q < top)
rises kinds f top (xdr.fixed item size) (value.items n) q high i =
    inr (subst (λ (r : ℕ). f r < top)
    (sym (in-replicate q item n (subst (λ (xs : List ℕ). IsIn q xs) (kinds_of-replicate item n) i))) high)
rises kinds f top (xdr.structure ps) value.fields q high i = inr (below_all f top ps q high i)
rises kinds f top (xdr.up_to item max) (value.items n) q high i =
    let four : length (own (xdr.up_to item max) (value.items n)) ≡ 4 = refl in inl (omega arith)
rises kinds f top (xdr.choice tag arms other) (value.tag z) q high i =
    let four : length (own (xdr.choice tag arms other) (value.tag z)) ≡ 4 = refl in inl (omega arith)
rises kinds f top (xdr.maybe item) value.present q high i =
    let four : length (own (xdr.maybe item) value.present) ≡ 4 = refl in inl (omega arith)
rises kinds f top _ _ q high i = absurd i

weaken : (kinds : List KindView) (place m n : ℕ) → HasMore kinds place m → n ≤ m → HasMore kinds place n
weaken kinds place m n more h = let all : m ≤ length (bytes_of kinds place more.0) = more.2 in
    (more.0, more.1, omega arith)

still_open : (shapes : List Shape) (done : List Bool) (place : ℕ) (qs : List ℕ) → is_done done place ≡ false
    → (is_done done place ≡ true) ⊎ (all_done done qs ≡ false) → all_done done qs ≡ false
still_open shapes done place qs not (inl is) = absurd (false≢true (sym not ∙ is))
still_open shapes done place qs not (inr e) = e

module _ (kinds : List KindView) (sound : AreSound kinds) (shapes : List Shape) (are : AreShapes kinds shapes)
    (done : List Bool) (settled : AreSettled shapes done) where
  abbrev AllMore : ℕ → Type 0
  AllMore n = (place : ℕ) → place < length kinds → is_done done place ≡ false → HasMore kinds place n

  grows : (n : ℕ) → AllMore n → (bound place : ℕ) → height kinds place < bound → place < length kinds
      → is_done done place ≡ false → HasMore kinds place (suc n)
  grows n less zero place h within not = absurd (omega arith)
  grows n less (suc bound) place h within not =
      let k = kind_at kinds place in
      let in_shapes : place < length shapes = omega (arith, are.lengths) in
      let s = element shapes place in_shapes in
      let unmet = one-undone done (needs s.0)
      (still_open shapes done place (needs s.0) not (settled place in_shapes s.0 in_shapes s.1)) in
      let r = needs_offers s.0 unmet.0 unmet.1 in
      let form = (are.each place s.0 in_shapes s.1).offers r.n r.qs r.offers in
      let i : IsIn unmet.0 (kinds_of (parts k form.0)) = subst (λ (xs : List ℕ). IsIn unmet.0 xs) (sym form.3) r.has in
      let all = sound.known place form.0 within in
      let inside : (p : ℕ) → IsIn p (kinds_of (parts k form.0)) → p < length kinds =
      λ p j. below_all (λ (x : ℕ). x) (length kinds) (parts k form.0) p all j in
      let each : (p : ℕ) → IsIn p (kinds_of (parts k form.0)) → (t : Tree) × Fits kinds p t =
      λ p j. sound.valued p (inside p j) in
      elim (rises kinds (height kinds) (height kinds place) k form.0 unmet.0 (sound.higher place within) i) [
        | inl some ↦ weaken kinds place (length (own k form.0) + n) (suc n)
            (node_more kinds place (length (own k form.0)) form.0 unmet.0 n form.1 refl i each
            (less unmet.0 (inside unmet.0 i) unmet.2)) (omega arith)
        | inr lower ↦ weaken kinds place (length (own k form.0) + suc n) (suc n)
            (node_more kinds place (length (own k form.0)) form.0 unmet.0 (suc n) form.1 refl i each
            (grows n less bound unmet.0 (omega arith) (inside unmet.0 i) unmet.2)) (omega arith)
      ]

  all_more : (n : ℕ) → AllMore n
  all_more zero place within not = let v = sound.valued place within in (v.0, v.1, omega arith)
  all_more (suc n) place within not = grows n (all_more n) (height kinds place + 1) place (omega arith) within not

  -- a place that is never done is on the way to a cycle, each turn of which has bytes
  pub unbounded : (place : ℕ) → place < length kinds → is_done done place ≡ false → IsUnbounded kinds place
  unbounded place within not n =
      let more = all_more (suc n) place within not in
      let all : suc n ≤ length (bytes_of kinds place more.0) = more.2 in
      (more.0, more.1, omega arith)
