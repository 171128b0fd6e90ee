use Rattle.std.proofs.Common.{◌≡◌, drop, map}
use Rattle.std.specs.List.{list_any}
use Rattle.xdr_lang.specs.Distinct.{program_repeats}
use Rattle.xdr_grammar.specs.View as view
use Rattle.xdr_lang.proofs.distinct.programs_repeat.Given as goal

abbrev pub invariant-loop-program : goal.invariant-loop-program
invariant-loop-program l = list_any program_repeats (map view.program_of (drop l.program-index l.programs))
    ≡ list_any program_repeats (map view.program_of l.programs)
