use Rattle.std.proofs.Common.{◌≡◌, map, drop}
use Rattle.xdr_types.specs.KindViews.{part_of_member}
use Rattle.xdr_json_reader.specs.Reasons.{kind_under}
use Rattle.xdr_json_reader.proofs.first_fields.field_listed.Given as goal

abbrev pub invariant-loop-field : goal.invariant-loop-field
invariant-loop-field l =
    kind_under (map part_of_member l.fields.items) l.name
    ≡ kind_under (map part_of_member (drop l.field-index l.fields.items)) l.name
