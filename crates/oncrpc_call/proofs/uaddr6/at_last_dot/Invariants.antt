use Rattle.std.proofs.Common.{drop}
use Rattle.xdr_units.specs.Texts.{HasNoDot}
use Rattle.oncrpc_call.proofs.uaddr6.at_last_dot.Given as goal

abbrev pub invariant-loop-at : goal.invariant-loop-at
invariant-loop-at l = HasNoDot (drop l.at l.text)
