use Rattle.std.proofs.Common.{◌≡◌, length}
use Rattle.xdr_tokens.specs.Bytes.{after_comment}
use Rattle.xdr_tokens.proofs.bytes.skip_comment.Given as goal

abbrev pub invariant-loop-rest : goal.invariant-loop-rest
invariant-loop-rest l = after_comment l.rest ≡ after_comment l.text

abbrev pub decreases-loop-rest : goal.decreases-loop-rest
decreases-loop-rest l = length l.rest
