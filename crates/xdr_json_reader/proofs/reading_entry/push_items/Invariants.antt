use Rattle.std.proofs.Common.{◌≡◌, ◌≤◌, ◌++◌, length, map, drop, replicate}
use Rattle.xdr_types.specs.Fits.{item_part}
use Rattle.xdr_json_reader.specs.Tape.{json_in}
use Rattle.xdr_json_reader.specs.Nodes.{each}
use Rattle.xdr_json_reader.specs.Private.Entries.{dues}
use Rattle.xdr_json_reader.proofs.reading_entry.push_items.Given as goal

abbrev pub invariant-loop-left : goal.invariant-loop-left
invariant-loop-left l =
    (dues l.due.items
    ≡ each (drop l.left (replicate (length l.items.items) (item_part l.kind.place)))
    (drop l.left (map json_in l.items.items)) ++ dues l.initial.due.items)
    × (l.left ≤ length l.items.items)

abbrev pub decreases-loop-left : goal.decreases-loop-left
decreases-loop-left l = l.left
