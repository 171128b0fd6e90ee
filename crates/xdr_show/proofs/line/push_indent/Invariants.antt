use Rattle.std.proofs.Common.{◌≡◌, ◌++◌, ◌*◌, ◌-◌, replicate}
use Rattle.xdr_show.proofs.line.push_indent.Given as goal

abbrev pub invariant-loop-left : goal.invariant-loop-left
invariant-loop-left l = l.out.items ++ replicate l.left 32 ≡ l.initial.out.items ++ replicate (2 * (l.fn.depth - 1)) 32

abbrev pub decreases-loop-left : goal.decreases-loop-left
decreases-loop-left l = l.left
