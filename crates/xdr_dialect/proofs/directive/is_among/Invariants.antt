use Rattle.std.proofs.Common.{◌≡◌, length}
use Rattle.xdr_dialect.specs.Directives.{is_among}
use Rattle.xdr_dialect.specs.Answers.{texts}
use Rattle.xdr_dialect.proofs.directive.is_among.Given as goal

abbrev pub invariant-loop-rest : goal.invariant-loop-rest
invariant-loop-rest l = is_among (texts l.names) l.run ≡ is_among (texts l.rest) l.run

abbrev pub decreases-loop-rest : goal.decreases-loop-rest
decreases-loop-rest l = length l.rest
