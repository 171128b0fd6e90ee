use Rattle.std.proofs.Common.{◌≡◌, ◌++◌, map, take}
use Rattle.std.specs.Prelude.{flat_map}
use Rattle.xdr_lang.specs.Views.{constant_of}
use Rattle.xdr_listing.specs.Private.Pieces.{constant_piece}
use Rattle.xdr_listing.proofs.lines.push_constants.Given as goal

abbrev pub invariant-loop-constant : goal.invariant-loop-constant
invariant-loop-constant l =
    l.out.items ≡ l.fn.out.items ++ flat_map constant_piece (map constant_of (take l.constant-index l.constants))
