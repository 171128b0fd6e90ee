use Rattle.std.proofs.Common.{◌≡◌, drop}
use Rattle.xdr_types.specs.Faults.{case_twice}
use Rattle.xdr_types.proofs.twice.case_twice.Given as goal

abbrev pub invariant-loop-i : goal.invariant-loop-i
invariant-loop-i l = case_twice (drop l.i l.cases.items) ≡ case_twice l.cases.items
