use Rattle.std.proofs.Common.{◌≡◌, drop, map}
use Rattle.xdr_lang.specs.Views.{procedure_of}
use Rattle.xdr_lang.specs.Declarations.{procedure_numbered}
use Rattle.xdr_lang.proofs.declarations.procedure_numbered.Given as goal

abbrev pub invariant-loop-procedure : goal.invariant-loop-procedure
invariant-loop-procedure l = procedure_numbered l.number
    (map procedure_of (drop l.procedure-index l.procedures)) ≡ procedure_numbered l.number
    (map procedure_of l.procedures)
