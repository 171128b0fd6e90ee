use Rattle.std.proofs.Common.{◌≡◌, drop, map, []}
use Rattle.xdr_lang.specs.Distinct.{pairs}
use Rattle.xdr_grammar.specs.View as view
use Rattle.xdr_lang.proofs.distinct.all_pairs.Given as goal

abbrev pub invariant-loop-program : goal.invariant-loop-program
invariant-loop-program l = pairs l.found.items (map view.program_of (drop l.program-index l.programs)) ≡ pairs []
    (map view.program_of l.programs)
