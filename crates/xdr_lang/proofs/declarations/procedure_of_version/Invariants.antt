use Rattle.std.proofs.Common.{◌≡◌, drop, map}
use Rattle.xdr_lang.specs.Views.{version_of}
use Rattle.xdr_lang.specs.Declarations.{procedure_of_version}
use Rattle.xdr_lang.proofs.declarations.procedure_of_version.Given as goal

abbrev pub invariant-loop-version : goal.invariant-loop-version
invariant-loop-version l = procedure_of_version l.vers l.proc
    (map version_of (drop l.version-index l.versions)) ≡ procedure_of_version l.vers l.proc (map version_of l.versions)
