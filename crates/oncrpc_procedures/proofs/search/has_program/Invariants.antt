use Rattle.std.proofs.Common.{◌≡◌, drop, map}
use Rattle.std.specs.List.{list_any}
use Rattle.xdr_lang.specs.Views.{program_of}
use Rattle.oncrpc_procedures.specs.Private.Search.{means_program, parts_of}
use Rattle.oncrpc_procedures.proofs.search.has_program.Given as goal

abbrev pub invariant-loop-program : goal.invariant-loop-program
invariant-loop-program l = list_any (means_program (parts_of l.parts)) (map program_of
    (drop l.program-index l.programs)) ≡ list_any (means_program (parts_of l.parts)) (map program_of l.programs)
