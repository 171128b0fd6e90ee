use Rattle.std.proofs.Common.{◌≡◌, ◌+◌, ◌≤◌, length}
use Rattle.xdr_rpcgen.specs.Files.{contents, place_in}
use Rattle.xdr_rpcgen.proofs.files.place_in.Given as goal

abbrev pub invariant-loop-rest : goal.invariant-loop-rest
invariant-loop-rest l = record {
  number : (place_in (contents l.texts) l.line).0 ≡ l.number + (place_in (contents l.rest) l.left).0;
  line : (place_in (contents l.texts) l.line).1 ≡ (place_in (contents l.rest) l.left).1;
  within : l.number + length l.rest ≤ length l.texts;
}

abbrev pub decreases-loop-rest : goal.decreases-loop-rest
decreases-loop-rest l = length l.rest
