use Rattle.std.proofs.Common.{◌≡◌, ◌+◌, length}
use Rattle.xdr_tokens.specs.Bytes.{run_length}
use Rattle.xdr_dialect.proofs.directive.run_length.Given as goal

abbrev pub invariant-loop-rest : goal.invariant-loop-rest
invariant-loop-rest l = record {
  value : l.len + run_length l.rest ≡ run_length l.text;
  within : l.len + length l.rest ≡ length l.text;
}

abbrev pub decreases-loop-rest : goal.decreases-loop-rest
decreases-loop-rest l = length l.rest
