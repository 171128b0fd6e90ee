use Rattle.std.proofs.Common.{◌≡◌, drop}
use Rattle.xdr_json.specs.Spelled.{has_key, at_key}
use Rattle.xdr_json_reader.specs.Tape.{members_of}
use Rattle.xdr_json_reader.specs.Private.Look.{pairs}
use Rattle.xdr_json_reader.proofs.reading_member.member_at.Given as goal

abbrev pub invariant-loop-member : goal.invariant-loop-member
invariant-loop-member l =
    (has_key (members_of (pairs l.members.items)) l.key
    ≡ has_key (members_of (pairs (drop l.member-index l.members.items))) l.key)
    × (at_key (members_of (pairs l.members.items)) l.key
    ≡ at_key (members_of (pairs (drop l.member-index l.members.items))) l.key)
