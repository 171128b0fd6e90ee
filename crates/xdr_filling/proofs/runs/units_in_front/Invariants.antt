use Rattle.std.proofs.Common.{take}
use Rattle.xdr_filling.specs.Private.Makes.{AreUnits}
use Rattle.xdr_filling.proofs.runs.units_in_front.Given as goal

abbrev pub invariant-loop-at : goal.invariant-loop-at
invariant-loop-at l = AreUnits l.signed (take l.at l.numbers)
