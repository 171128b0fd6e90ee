use Rattle.std.proofs.Common.{◌≡◌, map, take}
use Rattle.xdr_types.specs.KindViews.{part_of_member}
use Rattle.xdr_json_reader.specs.Private.Fields.{keys, names}
use Rattle.xdr_json_reader.proofs.reading_group.are_in_order.Given as goal

abbrev pub invariant-loop-i : goal.invariant-loop-i
invariant-loop-i l =
    take l.i (keys l.members.items) ≡ take l.i (names (map part_of_member l.fields.items))
