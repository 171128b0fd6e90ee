use Rattle.std.proofs.Common.{◌≡◌, ◌++◌, length}
use Rattle.std.specs.List.{flat_map}
use Rattle.xdr_show.specs.Line.{escaped}
use Rattle.xdr_show.proofs.content.push_escaped_bytes.Given as goal

abbrev pub invariant-loop-byte : goal.invariant-loop-byte
invariant-loop-byte l = l.out.items ++ flat_map escaped l.rest ≡ l.initial.out.items ++ flat_map escaped l.fn.bytes

abbrev pub decreases-loop-byte : goal.decreases-loop-byte
decreases-loop-byte l = length l.rest
