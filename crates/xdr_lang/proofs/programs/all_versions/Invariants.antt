use Rattle.std.proofs.Common.{◌≡◌, drop, map, []}
use Rattle.xdr_lang.specs.Views.{types_of, version_of}
use Rattle.xdr_grammar.specs.View as view
use Rattle.xdr_lang.specs.Kinds.{each_onto}
use Rattle.xdr_lang.specs.Programs.{one_version}
use Rattle.xdr_lang.proofs.programs.all_versions.Given as goal

abbrev pub invariant-loop-version : goal.invariant-loop-version
invariant-loop-version l = each_onto (one_version (types_of l.types.list.items))
    (map view.version_of (drop l.version-index l.items)) (map version_of l.found.items) ≡ each_onto
    (one_version (types_of l.types.list.items)) (map view.version_of l.items) []
