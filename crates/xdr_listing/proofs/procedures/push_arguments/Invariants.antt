use Rattle.std.proofs.Common.{◌≡◌, ◌++◌, ◌+◌, drop}
use Rattle.xdr_lang.specs.Views.{places}
use Rattle.xdr_listing.specs.Private.Held.{types_of}
use Rattle.xdr_listing.specs.Private.Pieces.{argument_pieces}
use Rattle.xdr_listing.proofs.procedures.push_arguments.Given as goal

abbrev pub invariant-loop-index : goal.invariant-loop-index
invariant-loop-index l =
    l.out.items
    ++ argument_pieces (types_of l.types) l.path.program l.path.version l.path.procedure (l.index + 1)
    (places (drop l.index l.arguments))
    ≡ l.fn.out.items
    ++ argument_pieces (types_of l.types) l.path.program l.path.version l.path.procedure 1 (places l.arguments)
