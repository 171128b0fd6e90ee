use Rattle.std.proofs.Common.{◌≡◌, replicate, None}
use Rattle.xdr_bounds.proofs.amounts.no_amounts.Given as goal

abbrev pub invariant-loop-i : goal.invariant-loop-i
invariant-loop-i l = l.amounts.items ≡ replicate l._i None
