use Rattle.std.proofs.Common.{◌≡◌, drop, map}
use Rattle.xdr_lang.specs.Views.{procedure_of}
use Rattle.oncrpc_procedures.specs.Private.Search.{first_procedure, parts_of}
use Rattle.oncrpc_procedures.proofs.search.procedure_search.Given as goal

abbrev pub invariant-loop-procedure : goal.invariant-loop-procedure
invariant-loop-procedure l = first_procedure (parts_of l.parts) l.program l.version
    (map procedure_of (drop l.procedure-index l.procedures))
    ≡ first_procedure (parts_of l.parts) l.program l.version (map procedure_of l.procedures)
