use Rattle.std.proofs.Common.{◌≡◌, length}
use Rattle.xdr_dialect.specs.Answers.{texts}
use Rattle.xdr_dialect.specs.Plain.{plain, plain_from, joined}
use Rattle.xdr_dialect.specs.Private.Steps.{standing_of}
use Rattle.xdr_dialect.proofs.plain.plain_text.Given as goal

abbrev pub invariant-loop-rest : goal.invariant-loop-rest
invariant-loop-rest l =
    plain (texts l.names) l.text ≡ joined l.plain.items (plain_from (texts l.names) (standing_of l.standing) l.rest)

abbrev pub decreases-loop-rest : goal.decreases-loop-rest
decreases-loop-rest l = length l.rest
