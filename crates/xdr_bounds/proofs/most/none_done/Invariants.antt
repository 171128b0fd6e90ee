use Rattle.std.proofs.Common.{◌≡◌, replicate, false}
use Rattle.xdr_bounds.proofs.most.none_done.Given as goal

abbrev pub invariant-loop-i : goal.invariant-loop-i
invariant-loop-i l = l.done.items ≡ replicate l._i false
