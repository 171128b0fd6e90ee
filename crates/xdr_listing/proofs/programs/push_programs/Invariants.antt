use Rattle.std.proofs.Common.{◌≡◌, ◌++◌, map, take}
use Rattle.std.specs.Prelude.{flat_map}
use Rattle.xdr_lang.specs.Views.{program_of}
use Rattle.xdr_listing.specs.Private.Held.{types_of}
use Rattle.xdr_listing.specs.Private.Pieces.{program_piece}
use Rattle.xdr_listing.proofs.programs.push_programs.Given as goal

abbrev pub invariant-loop-program : goal.invariant-loop-program
invariant-loop-program l =
    l.out.items
    ≡ l.fn.out.items ++ flat_map (program_piece (types_of l.types)) (map program_of (take l.program-index l.programs))
