use Rattle.std.proofs.Common.{◌≡◌, drop, map}
use Rattle.xdr_lang.specs.Distinct.{pairs_of}
use Rattle.xdr_grammar.specs.View as view
use Rattle.xdr_lang.proofs.distinct.pairs_of.Given as goal

abbrev pub invariant-loop-version : goal.invariant-loop-version
invariant-loop-version l = pairs_of l.found.items l.prog
    (map view.version_of (drop l.version-index l.versions)) ≡ pairs_of l.fn.found.items l.prog
    (map view.version_of l.versions)
