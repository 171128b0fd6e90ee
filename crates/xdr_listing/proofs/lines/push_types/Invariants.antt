use Rattle.std.proofs.Common.{◌≡◌, ◌++◌, map, take}
use Rattle.std.specs.Prelude.{flat_map}
use Rattle.xdr_types.specs.KindViews.{name_of}
use Rattle.xdr_listing.specs.Private.Held.{types_of}
use Rattle.xdr_listing.specs.Private.Pieces.{type_piece}
use Rattle.xdr_listing.proofs.lines.push_types.Given as goal

abbrev pub invariant-loop-name : goal.invariant-loop-name
invariant-loop-name l =
    l.out.items
    ≡ l.fn.out.items ++ flat_map (type_piece (types_of l.types)) (map name_of (take l.name-index l.names))
