-- Both counts of each kind, beside each other.
use Rattle.std.proofs.Common.{◌≡◌, ℕ, ◌<◌, List, length, get_or, Option, sym, ◌∙◌, subst, arith}
use Rattle.xdr_types.specs.Kinds.{KindView}
use Rattle.xdr_bounds.specs.Bounds.{IsLeastAnswer, IsGreatestAnswer, IsRange, AreRanges}
use Rattle.xdr_bounds.specs.Private.Amounts.{amount_at}
use Rattle.xdr_bounds.specs.Private.Shapes.{AreShapes}
use Rattle.xdr_bounds.specs.Private.Rounds.{AreSound, AreGreatest, AreJoined}
use Rattle.xdr_bounds.specs.declared.shape.Shape.{Shape}
use Rattle.xdr_bounds.specs.declared.greatest.Greatest.{Greatest}
use Rattle.xdr_bounds.specs.declared.range.Range.{Range}

pub are_ranges : (kinds : List KindView) (shapes : List Shape) (least : List (Option ℕ)) (counts : List Greatest)
    (ranges : List Range) → AreShapes kinds shapes → AreSound kinds → length least ≡ length shapes
    → ((place : ℕ) → IsLeastAnswer kinds place (amount_at least place)) → AreGreatest shapes counts
    → AreJoined least counts ranges → AreRanges kinds ranges
are_ranges kinds shapes least counts ranges are sound lengths fewest most joined = record {
  lengths = joined.lengths ∙ lengths ∙ are.lengths;
  each = λ place r within is.
      let both = joined.each place r within is in
      let inside : place < length counts = omega (arith, within, joined.lengths, lengths, most.lengths) in
      record {
        least = subst (λ (a : Option ℕ). IsLeastAnswer kinds place a) (sym both.0) (fewest place);
        greatest = most.each kinds place r.greatest sound are inside both.1;
      };
}

-- what is told of a place
pub range_at : (kinds : List KindView) (ranges : List Range) (place : ℕ) (r : Range) → AreRanges kinds ranges
    → place < length ranges → r ≡ get_or ranges place r → IsRange kinds place r
range_at kinds ranges place r are within is = are.each place r within is
