use Rattle.std.proofs.Common.{◌≡◌, ◌++◌, map, take}
use Rattle.std.specs.Prelude.{flat_map}
use Rattle.xdr_types.specs.KindViews.{name_of}
use Rattle.xdr_listing.specs.Private.Held.{types_of}
use Rattle.xdr_listing.specs.Private.Tokens.{type_tokens}
use Rattle.xdr_listing.proofs.json_listing.push_types.Given as goal

abbrev pub invariant-loop-name : goal.invariant-loop-name
invariant-loop-name l =
    l.out ≡ l.initial.out ++ flat_map (type_tokens (types_of l.types)) (map name_of (take l.name-index l.names))
