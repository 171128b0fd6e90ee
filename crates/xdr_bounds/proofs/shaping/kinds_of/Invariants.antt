use Rattle.std.proofs.Common.{◌≡◌, map, take}
use Rattle.xdr_types.specs.KindViews.{part_of_member}
use Rattle.xdr_bounds.specs.Private.Amounts.{places_of}
use Rattle.xdr_bounds.specs.Private.Shapes.{kinds_of}
use Rattle.xdr_bounds.proofs.shaping.kinds_of.Given as goal

abbrev pub invariant-loop-field : goal.invariant-loop-field
invariant-loop-field l = places_of l.kinds.items ≡ kinds_of (map part_of_member (take l.field-index l.field-items))
