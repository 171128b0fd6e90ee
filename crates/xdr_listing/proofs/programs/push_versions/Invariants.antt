use Rattle.std.proofs.Common.{◌≡◌, ◌++◌, map, take}
use Rattle.std.specs.Prelude.{flat_map}
use Rattle.xdr_lang.specs.Views.{version_of}
use Rattle.xdr_listing.specs.Private.Held.{types_of}
use Rattle.xdr_listing.specs.Private.Pieces.{version_piece}
use Rattle.xdr_listing.proofs.programs.push_versions.Given as goal

abbrev pub invariant-loop-version : goal.invariant-loop-version
invariant-loop-version l =
    l.out.items ≡ l.fn.out.items
    ++ flat_map (version_piece (types_of l.types) l.program) (map version_of (take l.version-index l.versions))
