use Rattle.std.proofs.Common.{◌≤◌, length, map, drop}
use Rattle.xdr_types.specs.KindViews.{part_of_member}
use Rattle.xdr_json_reader.specs.Private.Wanted.{IsFieldTable}
use Rattle.xdr_json_reader.proofs.first_fields.places_of.Given as goal

abbrev pub invariant-loop-left : goal.invariant-loop-left
invariant-loop-left l =
    IsFieldTable (drop l.left (map part_of_member l.fields.items)) l.places × (l.left ≤ length l.fields.items)

abbrev pub decreases-loop-left : goal.decreases-loop-left
decreases-loop-left l = l.left
