use Rattle.std.proofs.Common.{◌≡◌, drop, map, []}
use Rattle.xdr_lang.specs.Views.{types_of, procedure_of}
use Rattle.xdr_grammar.specs.View as view
use Rattle.xdr_lang.specs.Kinds.{each_onto}
use Rattle.xdr_lang.specs.Programs.{one_procedure}
use Rattle.xdr_lang.proofs.programs.all_procedures.Given as goal

abbrev pub invariant-loop-procedure : goal.invariant-loop-procedure
invariant-loop-procedure l = each_onto (one_procedure (types_of l.types.list.items))
    (map view.procedure_of (drop l.procedure-index l.items)) (map procedure_of l.found.items) ≡ each_onto
    (one_procedure (types_of l.types.list.items)) (map view.procedure_of l.items) []
