use Rattle.std.proofs.Common.{◌≡◌, drop, map}
use Rattle.std.specs.List.{list_any}
use Rattle.xdr_lang.specs.Declarations.{Version}
use Rattle.xdr_lang.specs.Views.{version_of}
use Rattle.oncrpc_procedures.specs.Meant.{means}
use Rattle.oncrpc_procedures.proofs.search.is_version_of.Given as goal

abbrev pub invariant-loop-version : goal.invariant-loop-version
invariant-loop-version l = list_any (λ (v : Version). means l.part v.name v.number)
    (map version_of (drop l.version-index l.versions))
    ≡ list_any (λ (v : Version). means l.part v.name v.number) (map version_of l.versions)
