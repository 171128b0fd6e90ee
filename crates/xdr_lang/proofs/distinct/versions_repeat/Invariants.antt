use Rattle.std.proofs.Common.{◌≡◌, drop, map}
use Rattle.std.specs.List.{list_any}
use Rattle.xdr_lang.specs.Distinct.{version_repeats}
use Rattle.xdr_grammar.specs.View as view
use Rattle.xdr_lang.proofs.distinct.versions_repeat.Given as goal

abbrev pub invariant-loop-version : goal.invariant-loop-version
invariant-loop-version l = list_any version_repeats (map view.version_of (drop l.version-index l.versions))
    ≡ list_any version_repeats (map view.version_of l.versions)
