use Rattle.std.proofs.Common.{◌≡◌, length}
use Rattle.xdr_dialect.specs.Blanks.{after_blanks, after_blanks_from}
use Rattle.xdr_dialect.proofs.blanks.after_blanks.Given as goal

abbrev pub invariant-loop-rest : goal.invariant-loop-rest
invariant-loop-rest l = after_blanks_from l.part l.rest ≡ after_blanks l.text

abbrev pub decreases-loop-rest : goal.decreases-loop-rest
decreases-loop-rest l = length l.rest
