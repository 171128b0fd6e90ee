use Rattle.std.proofs.Common.{take}
use Rattle.xdr_units.specs.Texts.{HasNoDot}
use Rattle.xdr_units.proofs.decimals.before_dot.Given as goal

abbrev pub invariant-loop-at : goal.invariant-loop-at
invariant-loop-at l = HasNoDot (take l.at l.text)
