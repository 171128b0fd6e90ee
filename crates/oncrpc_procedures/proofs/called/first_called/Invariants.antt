use Rattle.std.proofs.Common.{◌≡◌, drop, map}
use Rattle.xdr_lang.specs.Views.{program_of}
use Rattle.oncrpc_procedures.specs.Private.Search.{first_called}
use Rattle.oncrpc_procedures.proofs.called.first_called.Given as goal

abbrev pub invariant-loop-program : goal.invariant-loop-program
invariant-loop-program l = first_called l.name (map program_of (drop l.program-index l.programs))
    ≡ first_called l.name (map program_of l.programs)
