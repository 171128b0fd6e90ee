use Rattle.std.proofs.Common.{◌≡◌, ℕ, [], ◌∷◌, length, slice_index_or, sym, ap, subst, arith}
use Rattle.std.proofs.lemmas.List.{length-append}
use Rattle.xdr_types.proofs.InSets.{pushed}
use Rattle.xdr_bounds.specs.Private.Amounts.{amount_at}
use Rattle.xdr_bounds.specs.declared.range.Range.{Range}
use Rattle.xdr_bounds.proofs.bounds.ranges_of.Goals as goal

pub loop-place-preserved : goal.loop-place-preserved
loop-place-preserved c =
    let least = c.args.least.now.items in
    let counts = c.args.greatest.now.items in
    let r : Range = record { least = c.noted.result; greatest = c.index.result.now } in
    let P : ℕ → Range → Type 0 =
    λ i x. (x.least ≡ amount_at least i) × (x.greatest ≡ slice_index_or counts i x.greatest) in
    record {
      lengths = omega (
        arith,
        ap length c.in_ok-push.ensures.items,
        length-append c.loop-place.ranges.items (r ∷ []),
        c.loop-place.invariant.lengths,
      );
      each = pushed P c.loop-place.ranges.items c.push.new.self.items r c.in_ok-push.ensures.items
          c.loop-place.invariant.each
          (subst (λ (i : ℕ). P i r) (sym c.loop-place.invariant.lengths) (c.noted.ensures, c.index.ensures));
    }
