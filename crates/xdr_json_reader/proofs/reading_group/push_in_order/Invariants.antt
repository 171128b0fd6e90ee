use Rattle.std.proofs.Common.{◌≡◌, ◌≤◌, ◌++◌, length, map, drop}
use Rattle.xdr_types.specs.KindViews.{part_of_member}
use Rattle.xdr_json_reader.specs.Nodes.{each}
use Rattle.xdr_json_reader.specs.Private.Entries.{dues}
use Rattle.xdr_json_reader.specs.Private.Fields.{nodes}
use Rattle.xdr_json_reader.proofs.reading_group.push_in_order.Given as goal

abbrev pub invariant-loop-left : goal.invariant-loop-left
invariant-loop-left l =
    (dues l.due.items
    ≡ each (drop l.left (map part_of_member l.fields.items)) (drop l.left (nodes l.members.items))
    ++ dues l.initial.due.items)
    × (l.left ≤ length l.members.items)

abbrev pub decreases-loop-left : goal.decreases-loop-left
decreases-loop-left l = l.left
