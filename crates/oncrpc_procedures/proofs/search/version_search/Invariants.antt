use Rattle.std.proofs.Common.{◌≡◌, drop, map}
use Rattle.xdr_lang.specs.Views.{version_of}
use Rattle.oncrpc_procedures.specs.Private.Search.{first_in_versions, parts_of}
use Rattle.oncrpc_procedures.proofs.search.version_search.Given as goal

abbrev pub invariant-loop-version : goal.invariant-loop-version
invariant-loop-version l = first_in_versions (parts_of l.parts) l.program
    (map version_of (drop l.version-index l.versions))
    ≡ first_in_versions (parts_of l.parts) l.program (map version_of l.versions)
