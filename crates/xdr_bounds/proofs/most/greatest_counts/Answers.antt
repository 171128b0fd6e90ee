use Rattle.std.proofs.Common.{◌≡◌, ℕ, List, [], ◌∷◌, length, replicate, Option, None, Bool, false, sym, ap, ◌∙◌, subst}
use Rattle.std.proofs.Common.{arith}
use Rattle.std.proofs.lemmas.List.{length-append}
use Rattle.xdr_types.specs.Kinds.{KindView}
use Rattle.xdr_types.proofs.InSets.{pushed}
use Rattle.xdr_bounds.specs.Bounds.{IsGreatestAnswer}
use Rattle.xdr_bounds.specs.Private.Amounts.{amount_at}
use Rattle.xdr_bounds.specs.Private.Rounds.{AreKnown, is_done, told}
use Rattle.xdr_bounds.specs.declared.greatest.Greatest.{Greatest}
use Rattle.xdr_bounds.proofs.Settling.{all_told, known_trans, none_known}
use Rattle.xdr_bounds.proofs.most.greatest_counts.Goals as goal

pub loop-preserved : goal.loop-preserved
loop-preserved c =
    known_trans c.args.shapes.now.items c.settle_in_order.new.amounts.items c.settle_in_order.new.done.items
    c.loop.amounts.items c.loop.done.items c.round.new.amounts.items c.round.new.done.items c.loop.invariant
    c.round.ensures.keeps

pub loop-place-preserved : goal.loop-place-preserved
loop-place-preserved c =
    let amounts = c.round.new.amounts.items in
    let done = c.round.new.done.items in
    let g = c.told-count.result in
    let P : ℕ → Greatest → Type 0 = λ i x. x ≡ told (amount_at amounts i) (is_done done i) in
    record {
      lengths = omega (
        arith,
        ap length c.in_ok-push.ensures.items,
        length-append c.loop-place.counts.items (g ∷ []),
        c.loop-place.invariant.lengths,
      );
      each = pushed P c.loop-place.counts.items c.push.new.self.items g c.in_ok-push.ensures.items
          c.loop-place.invariant.each
          (subst (λ (i : ℕ). P i g) (sym c.loop-place.invariant.lengths) c.told-count.ensures);
    }

pub returns : goal.returns
returns c =
    let shapes = c.args.shapes.now.items in
    let amounts = c.round.new.amounts.items in
    let done = c.round.new.done.items in
    let none = c.in_ok-amounts.amounts.items in
    let not = c.in_ok-done.done.items in
    let first = c.settle_in_order.new.amounts.items in
    let ready = c.settle_in_order.new.done.items in
    let kept = known_trans shapes none not first ready amounts done c.in_ok-settle_in_order.ensures
    (known_trans shapes first ready c.loop.amounts.items c.loop.done.items amounts done c.loop.invariant
    c.round.ensures.keeps) in
    record {
      lengths = omega (arith, c.loop-place.invariant.lengths, c.loop-place-test.false);
      each = λ kinds place g sound are within is.
          let begun : AreKnown kinds none not =
          subst (λ (x : List (Option ℕ)). AreKnown kinds x not) (sym c.in_ok-amounts.ensures)
          (subst (λ (y : List Bool). AreKnown kinds (replicate c.len.result None) y) (sym c.in_ok-done.ensures)
          (none_known kinds c.len.result c.len-2.result)) in
          subst (λ (x : Greatest). IsGreatestAnswer kinds place x)
          (sym (c.loop-place.invariant.each place g within is))
          (all_told kinds shapes amounts done sound are (kept.known kinds are sound.valued begun)
          (c.round.ensures.settled c.loop-test.false) place
          (omega (arith, within, c.loop-place.invariant.lengths, are.lengths)));
    }
