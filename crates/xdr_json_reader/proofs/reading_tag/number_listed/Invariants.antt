use Rattle.std.proofs.Common.{◌≡◌, ℤ, map, drop}
use Rattle.xdr_types.specs.KindViews.{constant_of}
use Rattle.xdr_json.specs.Spelled.{is_name}
use Rattle.xdr_json_reader.proofs.reading_tag.number_listed.Given as goal

abbrev pub invariant-loop-member : goal.invariant-loop-member
invariant-loop-member l =
    (z : ℤ) → is_name (map constant_of l.members.items) z l.name
    ≡ is_name (map constant_of (drop l.member-index l.members.items)) z l.name
