use Rattle.std.proofs.Common.{◌≡◌, ◌≤◌, ◌++◌, List, drop, take}
use Rattle.xdr_types.specs.Kinds.{Part}
use Rattle.xdr_json_reader.specs.Tape.{members_of}
use Rattle.xdr_json_reader.specs.Reasons.{values}
use Rattle.xdr_json_reader.specs.Private.Entries.{dues}
use Rattle.xdr_json_reader.specs.Private.Look.{pairs}
use Rattle.xdr_json_reader.specs.Private.Wanted.{IsWanted}
use Rattle.xdr_json_reader.proofs.first_members.push_values.Given as goal

abbrev pub invariant-loop-left : goal.invariant-loop-left
invariant-loop-left l =
    ((ps : List Part) → IsWanted l.fn.wanted ps
    → dues l.due.items
    ≡ values ps (members_of (pairs (drop l.left (take l.count l.members.items)))) ++ dues l.initial.due.items)
    × (l.left ≤ l.count)

abbrev pub decreases-loop-left : goal.decreases-loop-left
decreases-loop-left l = l.left
