use Rattle.std.proofs.Common.{◌≡◌, ◌++◌, map, take}
use Rattle.std.specs.Prelude.{flat_map}
use Rattle.xdr_lang.specs.Views.{version_of}
use Rattle.xdr_listing.specs.Private.Held.{types_of}
use Rattle.xdr_listing.specs.Private.Tokens.{version_tokens}
use Rattle.xdr_listing.proofs.json_programs.push_versions.Given as goal

abbrev pub invariant-loop-version : goal.invariant-loop-version
invariant-loop-version l =
    l.out
    ≡ l.initial.out ++ flat_map (version_tokens (types_of l.types)) (map version_of (take l.version-index l.versions))
