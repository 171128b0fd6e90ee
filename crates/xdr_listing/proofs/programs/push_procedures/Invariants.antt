use Rattle.std.proofs.Common.{◌≡◌, ◌++◌, map, take}
use Rattle.std.specs.Prelude.{flat_map}
use Rattle.xdr_lang.specs.Views.{procedure_of}
use Rattle.xdr_listing.specs.Private.Held.{types_of}
use Rattle.xdr_listing.specs.Private.Pieces.{procedure_piece}
use Rattle.xdr_listing.proofs.programs.push_procedures.Given as goal

abbrev pub invariant-loop-procedure : goal.invariant-loop-procedure
invariant-loop-procedure l =
    l.out.items ≡ l.fn.out.items
    ++ flat_map (procedure_piece (types_of l.types) l.program l.version)
    (map procedure_of (take l.procedure-index l.procedures))
