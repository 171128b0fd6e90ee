use Rattle.std.proofs.Common.{◌≡◌, drop, map}
use Rattle.xdr_lang.specs.Views.{program_of}
use Rattle.oncrpc_procedures.specs.Private.Search.{first_version_of}
use Rattle.oncrpc_procedures.proofs.called.first_version_of.Given as goal

abbrev pub invariant-loop-program : goal.invariant-loop-program
invariant-loop-program l = first_version_of l.name l.number (map program_of (drop l.program-index l.programs))
    ≡ first_version_of l.name l.number (map program_of l.programs)
