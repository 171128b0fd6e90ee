use Rattle.std.proofs.Common.{◌≡◌, ◌++◌, map, take}
use Rattle.std.specs.Prelude.{flat_map}
use Rattle.xdr_lang.specs.Views.{procedure_of}
use Rattle.xdr_listing.specs.Private.Held.{types_of}
use Rattle.xdr_listing.specs.Private.Tokens.{procedure_tokens}
use Rattle.xdr_listing.proofs.json_programs.push_procedures.Given as goal

abbrev pub invariant-loop-procedure : goal.invariant-loop-procedure
invariant-loop-procedure l =
    l.out ≡ l.initial.out
    ++ flat_map (procedure_tokens (types_of l.types)) (map procedure_of (take l.procedure-index l.procedures))
