use Rattle.std.proofs.Common.{length}
use Rattle.xdr_stream.proofs.machine.unit.+are_zeros.Given as goal

abbrev pub decreases-are_zeros : goal.decreases-are_zeros
decreases-are_zeros l = length l.bytes.now
