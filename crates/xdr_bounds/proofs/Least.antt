-- The least counts of bytes, by the shapes of kinds.
use Rattle.std.proofs.Common.{◌≡◌, ℕ, zero, suc, ◌+◌, ◌*◌, ◌^◌, ◌<◌, ◌≤◌, List, [], ◌∷◌, length, get_or, replicate, ◌⊎◌}
use Rattle.std.proofs.Common.{inl, inr}
use Rattle.std.proofs.Common.{Option, Some, None, unwrap_or, MatchOption, true, false, refl, sym, ap, ◌∙◌, subst, arith}
use Rattle.std.proofs.lemmas.Bool.{false≢true}
use Rattle.std.proofs.lemmas.List.{get_or_past}
use Rattle.xdr_types.specs.Kinds as xdr
use Rattle.xdr_types.specs.Kinds.{KindView, kind_at}
use Rattle.xdr_types.specs.Tree as value
use Rattle.xdr_types.specs.Tree.{Head}
use Rattle.xdr_types.specs.Fits.{is_legal}
use Rattle.xdr_bounds.specs.Bounds.{IsReached, HasAtLeast, IsLeast, IsLeastAnswer}
use Rattle.xdr_bounds.specs.Private.Amounts.{IsIn, places_of, total, amount_at}
use Rattle.xdr_bounds.specs.Private.Shapes.{IsForm, Covers, Offers, IsShape, AreShapes, least_over}
use Rattle.xdr_bounds.specs.Private.Rounds.{low, AreReached, AreLow}
use Rattle.xdr_bounds.specs.declared.shape.Shape.{Shape}
use Rattle.xdr_bounds.specs.declared.shape.Shape.TheVariants as shape
use Rattle.xdr_bounds.proofs.Forms.{AreUnder, at_least, node_reached}
use Rattle.xdr_bounds.proofs.Sums.{below_or_not, total-replicate, lowest-low, lowest-met, part-of-total}

-- an element of a list, at its place
pub element : {X : Type 0} (xs : List X) (i : ℕ) → i < length xs → (x : X) × (x ≡ get_or xs i x)
element [] i h = absurd (omega arith)
element (x ∷ xs) zero h = (x, refl)
element (x ∷ xs) (suc i) h = element xs i (omega arith)

covers_least : (s : Shape) (f : ℕ → ℕ) (n : ℕ) (qs : List ℕ) → Covers s n qs → least_over f s ≤ n + total f qs
covers_least (shape.Alone least greatest) f n qs h = let low : least ≤ n = h.1 in omega arith
covers_least (shape.Items item count) f n qs h =
    let all : total f qs ≡ f item.place * count = ap (total f) h.1 ∙ total-replicate f item.place count in omega arith
covers_least (shape.Fields fields) f n qs h =
    let all : total f qs ≡ total f (places_of fields.items) = ap (total f) h.1 in omega arith
covers_least (shape.OneOf parts) f n qs h =
    let all : total f qs ≡ f h.1 + 0 = ap (total f) h.3 in
    let is : n ≡ 4 = h.0 in
    omega (arith, lowest-low f (places_of parts.items) h.1 h.2)
covers_least (shape.UpTo item most) f n qs h = let is : n ≡ 4 = h.0 in omega arith

-- what offers a number exactly
pub record Offered (s : Shape) (f : ℕ → ℕ) (m : ℕ) : Type 0 where
  pub n : ℕ
  pub qs : List ℕ
  pub offers : Offers s n qs
  pub sum : n + total f qs ≡ m

offers_least : (s : Shape) (f : ℕ → ℕ) → least_over f s < 2 ^ 64 → Offered s f (least_over f s)
offers_least (shape.Alone least greatest) f small =
    record { n = least; qs = []; offers = (refl, inl refl); sum = omega arith }
offers_least (shape.Items item count) f small =
    record {
      n = 0;
      qs = replicate count item.place;
      offers = (refl, refl);
      sum = omega (arith, total-replicate f item.place count);
    }
offers_least (shape.Fields fields) f small =
    record { n = 0; qs = places_of fields.items; offers = (refl, refl); sum = omega arith }
offers_least (shape.OneOf parts) f small =
    let met = lowest-met f (places_of parts.items) (omega arith) in
    record { n = 4; qs = met.0 ∷ []; offers = (refl, met.0, met.1, refl); sum = omega (arith, met.2) }
offers_least (shape.UpTo item most) f small =
    record { n = 4; qs = []; offers = (refl, 0, omega arith, refl); sum = omega arith }

some_low : (amount : Option ℕ) → unwrap_or amount (2 ^ 64) < 2 ^ 64 → amount ≡ Some (unwrap_or amount (2 ^ 64))
some_low None h = absurd (omega arith)
some_low (Some n) h = refl

-- what a shape has at least, by amounts that are reached, is reached
pub least_reached : (kinds : List KindView) (amounts : List (Option ℕ)) (place : ℕ) (s : Shape)
    → IsShape kinds (kind_at kinds place) s → AreReached kinds amounts → least_over (low amounts) s < 2 ^ 64
    → IsReached kinds place (least_over (low amounts) s)
least_reached kinds amounts place s is are small =
    let off = offers_least s (low amounts) small in
    let each : (q : ℕ) → IsIn q off.qs → IsReached kinds q (low amounts q) =
    λ q i. are q (low amounts q)
    (some_low (amount_at amounts q) (omega (arith, part-of-total (low amounts) off.qs q i, off.sum))) in
    subst (λ (m : ℕ). IsReached kinds place m) off.sum
    (node_reached kinds place off.n off.qs (low amounts) (is.offers off.n off.qs off.offers) each)

-- a place outside the list has no forms
no_head : (kinds : List KindView) (h : Head) → is_legal kinds xdr.unknown h ≡ false
no_head kinds (value.int z) = refl
no_head kinds _ = refl

no_form : (kinds : List KindView) (n : ℕ) (qs : List ℕ) → IsForm kinds xdr.unknown n qs → ⊥
no_form kinds n qs form = false≢true (sym (no_head kinds form.0) ∙ form.1)

module _ (kinds : List KindView) (shapes : List Shape) (are : AreShapes kinds shapes) (amounts : List (Option ℕ))
    (reached : AreReached kinds amounts)
    (closed : AreLow shapes amounts) where
  all_under : AreUnder kinds (low amounts)
  all_under place n qs form =
      elim (below_or_not place (length kinds)) [
        | inl inside ↦
            let within : place < length shapes = omega (arith, are.lengths) in
            let s = element shapes place within in
            let here : low amounts place ≤ least_over (low amounts) s.0 = closed place within s.0 within s.1 in
            omega (arith, covers_least s.0 (low amounts) n qs ((are.each place s.0 within s.1).covers n qs form))
        | inr past ↦ absurd (no_form kinds n qs
            (subst (λ (k : KindView). IsForm kinds k n qs) (get_or_past kinds place xdr.unknown past) form))
      ]

  -- what is noted in the end is the least count of each kind
  pub are_least : (place : ℕ) → IsLeastAnswer kinds place (amount_at amounts place)
  are_least place = by_amount (amount_at amounts place) refl
    where
      by_amount : (a : Option ℕ) → amount_at amounts place ≡ a → IsLeastAnswer kinds place a
      by_amount None e = subst (λ (n : ℕ). HasAtLeast kinds place n) (ap (λ (a : Option ℕ). unwrap_or a (2 ^ 64)) e)
          (at_least kinds (low amounts) all_under place)
      by_amount (Some n) e = record {
        every = subst (λ (m : ℕ). HasAtLeast kinds place m) (ap (λ (a : Option ℕ). unwrap_or a (2 ^ 64)) e)
            (at_least kinds (low amounts) all_under place);
        one = reached place n e;
      }
