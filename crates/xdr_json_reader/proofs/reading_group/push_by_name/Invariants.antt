use Rattle.std.proofs.Common.{◌≡◌, ◌≤◌, ◌++◌, length, map, drop, true}
use Rattle.xdr_types.specs.KindViews.{part_of_member}
use Rattle.xdr_json.specs.Spelled.{has_each}
use Rattle.xdr_json_reader.specs.Tape.{members_of}
use Rattle.xdr_json_reader.specs.Private.Look.{pairs}
use Rattle.xdr_json_reader.specs.Nodes.{each}
use Rattle.xdr_json_reader.specs.Private.Entries.{dues}
use Rattle.xdr_json_reader.specs.Private.Fields.{at_each}
use Rattle.xdr_json_reader.proofs.reading_group.push_by_name.Given as goal

abbrev pub invariant-loop-left : goal.invariant-loop-left
invariant-loop-left l =
    (dues l.due.items
    ≡ each (drop l.left (map part_of_member l.fields.items))
    (drop l.left (at_each (map part_of_member l.fields.items) (members_of (pairs l.members.items))))
    ++ dues l.initial.due.items)
    × (has_each (drop l.left (map part_of_member l.fields.items)) (members_of (pairs l.members.items)) ≡ true)
    × (l.left ≤ length l.fields.items)

abbrev pub decreases-loop-left : goal.decreases-loop-left
decreases-loop-left l = l.left
