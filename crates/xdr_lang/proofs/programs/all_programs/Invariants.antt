use Rattle.std.proofs.Common.{◌≡◌, drop, map, []}
use Rattle.xdr_lang.specs.Views.{types_of, program_of}
use Rattle.xdr_grammar.specs.View as view
use Rattle.xdr_lang.specs.Kinds.{each_onto}
use Rattle.xdr_lang.specs.Programs.{one_program}
use Rattle.xdr_lang.proofs.programs.all_programs.Given as goal

abbrev pub invariant-loop-program : goal.invariant-loop-program
invariant-loop-program l = each_onto (one_program (types_of l.types.list.items))
    (map view.program_of (drop l.program-index l.items)) (map program_of l.found.items) ≡ each_onto
    (one_program (types_of l.types.list.items)) (map view.program_of l.items) []
