use Rattle.std.proofs.Common.{◌≡◌, take}
use Rattle.std.specs.List.{flat_map}
use Rattle.xdr_show.specs.Line.{escaped}
use Rattle.xdr_show.proofs.content.plain_count.Given as goal

abbrev pub invariant-loop-i : goal.invariant-loop-i
invariant-loop-i l = flat_map escaped (take l.i l.bytes) ≡ take l.i l.bytes
