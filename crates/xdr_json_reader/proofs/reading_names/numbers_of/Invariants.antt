use Rattle.std.proofs.Common.{◌≤◌, length, map, drop}
use Rattle.xdr_types.specs.KindViews.{constant_of}
use Rattle.xdr_json_reader.specs.Private.Names.{IsTable}
use Rattle.xdr_json_reader.proofs.reading_names.numbers_of.Given as goal

abbrev pub invariant-loop-left : goal.invariant-loop-left
invariant-loop-left l =
    IsTable (drop l.left (map constant_of l.members.items)) l.numbers × (l.left ≤ length l.members.items)

abbrev pub decreases-loop-left : goal.decreases-loop-left
decreases-loop-left l = l.left
