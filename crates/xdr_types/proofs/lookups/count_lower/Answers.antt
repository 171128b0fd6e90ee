use Rattle.std.proofs.Common.{◌≡◌, ◌+◌, ◌-◌, ◌/◌, ℕ, ℤ, List, w64, to_z, of_z, arith, rules}
use Rattle.xdr_types.proofs.Entries.{more_below, more_above}
use Rattle.xdr_types.proofs.lookups.count_lower.Goals as goal

pub loop-low-preserved-then-index-number : goal.loop-low-preserved-then-index-number
loop-low-preserved-then-index-number c =
    let es : List (ℤ × ℕ) = c.args.found.now.items in
    let e : ℤ × ℕ = c.index.result.now in
    let middle : ℕ = c.loop-low.low + (c.loop-low.high - c.loop-low.low) / 2 in
    let here : to_z w64 (of_z w64 e.0) ≡ e.0 = search rules in
    record {
      order = omega arith;
      within = c.loop-low.invariant.within;
      below = more_below es middle e _ _ c.requires (omega arith) c.index.ensures here c.if-index-number.true;
      above = c.loop-low.invariant.above;
    }

pub loop-low-preserved : goal.loop-low-preserved
loop-low-preserved c =
    let es : List (ℤ × ℕ) = c.args.found.now.items in
    let e : ℤ × ℕ = c.index.result.now in
    let middle : ℕ = c.loop-low.low + (c.loop-low.high - c.loop-low.low) / 2 in
    let here : to_z w64 (of_z w64 e.0) ≡ e.0 = search rules in
    record {
      order = omega arith;
      within = omega arith;
      below = c.loop-low.invariant.below;
      above = more_above es middle e _ _ c.requires (omega arith) c.index.ensures here c.if-index-number.false;
    }
