use Rattle.std.proofs.Common.{◌≡◌, ◌≤◌, ℕ, None, length, get_or}
use Rattle.xdr_listing.proofs.names.reach.Given as goal

abbrev pub invariant-loop-more : goal.invariant-loop-more
invariant-loop-more l =
    (l._more ≤ length l.firsts.items) × ((q : ℕ) → get_or l.firsts.items q None ≡ get_or l.fn.firsts.items q None)
