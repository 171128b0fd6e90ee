use Rattle.std.proofs.Common.{◌≡◌, length}
use Rattle.xdr_dialect.specs.Blanks.{closes, closes_from}
use Rattle.xdr_dialect.proofs.blanks.closes.Given as goal

abbrev pub invariant-loop-rest : goal.invariant-loop-rest
invariant-loop-rest l = closes_from l.spot l.rest ≡ closes l.text

abbrev pub decreases-loop-rest : goal.decreases-loop-rest
decreases-loop-rest l = length l.rest
