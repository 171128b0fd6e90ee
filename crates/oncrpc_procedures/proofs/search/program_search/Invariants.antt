use Rattle.std.proofs.Common.{◌≡◌, drop, map}
use Rattle.xdr_lang.specs.Views.{program_of}
use Rattle.oncrpc_procedures.specs.Private.Search.{first_in_programs, parts_of}
use Rattle.oncrpc_procedures.proofs.search.program_search.Given as goal

abbrev pub invariant-loop-program : goal.invariant-loop-program
invariant-loop-program l = first_in_programs (parts_of l.parts) (map program_of (drop l.program-index l.programs))
    ≡ first_in_programs (parts_of l.parts) (map program_of l.programs)
