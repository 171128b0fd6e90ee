use Rattle.std.proofs.Common.{ℤ, drop}
use Rattle.xdr_types.specs.Private.Rising.{RiseTo}
use Rattle.xdr_types.proofs.rising.last_of_rising.Given as goal

abbrev pub invariant-loop-case : goal.invariant-loop-case
invariant-loop-case l = (end : ℤ) → RiseTo l.last (drop l.case-index l.cases) end → RiseTo l.low l.cases end
