use Rattle.std.proofs.Common.{take}
use Rattle.xdr_paths.specs.Paths.{HasNoMark}
use Rattle.xdr_paths.proofs.steps.before_mark.Given as goal

abbrev pub invariant-loop-at : goal.invariant-loop-at
invariant-loop-at l = HasNoMark (take l.at l.text)
