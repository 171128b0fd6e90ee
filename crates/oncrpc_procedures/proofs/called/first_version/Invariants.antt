use Rattle.std.proofs.Common.{◌≡◌, drop, map}
use Rattle.xdr_lang.specs.Views.{version_of}
use Rattle.oncrpc_procedures.specs.Private.Search.{first_version}
use Rattle.oncrpc_procedures.proofs.called.first_version.Given as goal

abbrev pub invariant-loop-version : goal.invariant-loop-version
invariant-loop-version l = first_version l.name (map version_of (drop l.version-index l.versions))
    ≡ first_version l.name (map version_of l.versions)
