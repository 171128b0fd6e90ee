use Rattle.std.proofs.Common.{◌≡◌, drop, map}
use Rattle.xdr_lang.specs.Views.{program_of}
use Rattle.xdr_lang.specs.Declarations.{procedure_of_program}
use Rattle.xdr_lang.proofs.declarations.procedure_of_program.Given as goal

abbrev pub invariant-loop-program : goal.invariant-loop-program
invariant-loop-program l = procedure_of_program l.prog l.vers l.proc
    (map program_of (drop l.program-index l.programs)) ≡ procedure_of_program l.prog l.vers l.proc
    (map program_of l.programs)
