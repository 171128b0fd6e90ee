use Rattle.std.proofs.Common.{◌≡◌, ◌++◌, map, take}
use Rattle.std.specs.Prelude.{flat_map}
use Rattle.xdr_lang.specs.Views.{program_of}
use Rattle.xdr_listing.specs.Private.Held.{types_of}
use Rattle.xdr_listing.specs.Private.Tokens.{program_tokens}
use Rattle.xdr_listing.proofs.json_programs.push_programs.Given as goal

abbrev pub invariant-loop-program : goal.invariant-loop-program
invariant-loop-program l =
    l.out
    ≡ l.initial.out ++ flat_map (program_tokens (types_of l.types)) (map program_of (take l.program-index l.programs))
