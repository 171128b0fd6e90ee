use Rattle.std.proofs.Common.{◌≡◌, ◌++◌, take}
use Rattle.xdr_filling.specs.Filled.{units}
use Rattle.xdr_filling.proofs.runs.push_units.Given as goal

abbrev pub invariant-loop-number : goal.invariant-loop-number
invariant-loop-number l = l.out.items ≡ l.initial.out.items ++ units (take l.number-index l.numbers)
