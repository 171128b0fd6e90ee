use Rattle.std.proofs.Common.{drop, map}
use Rattle.xdr_types.specs.KindViews.{name_of}
use Rattle.xdr_listing.specs.Private.Firsts.{AreFirst}
use Rattle.xdr_listing.proofs.names.first_names.Given as goal

abbrev pub invariant-loop-index : goal.invariant-loop-index
invariant-loop-index l = AreFirst (map name_of (drop l.index l.names)) l.firsts.items
