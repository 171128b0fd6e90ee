use Rattle.std.proofs.Common.{ℕ, ◌≤◌, List, length, drop}
use Rattle.std.specs.BTreeMap.{get_by}
use Rattle.std.specs.Cmp.Lexicographic.{slice_cmp}
use Rattle.std.specs.Ordering.{nat_cmp}
use Rattle.xdr_json_reader.specs.Tape.{members_of}
use Rattle.xdr_json_reader.specs.Private.Look.{pairs}
use Rattle.xdr_json_reader.specs.Private.Fields.{Finds}
use Rattle.xdr_json_reader.proofs.reading_group.by_key.Given as goal

abbrev pub invariant-loop-left : goal.invariant-loop-left
invariant-loop-left l =
    ((key : List ℕ) → Finds (get_by (λ k. slice_cmp nat_cmp key k.now) l.named)
    (members_of (pairs (drop l.left l.members.items))) key)
    × (l.left ≤ length l.members.items)

abbrev pub decreases-loop-left : goal.decreases-loop-left
decreases-loop-left l = l.left
