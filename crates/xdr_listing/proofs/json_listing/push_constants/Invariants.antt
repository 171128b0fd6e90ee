use Rattle.std.proofs.Common.{◌≡◌, ◌++◌, map, take}
use Rattle.std.specs.Prelude.{flat_map}
use Rattle.xdr_lang.specs.Views.{constant_of}
use Rattle.xdr_listing.specs.Private.Tokens.{constant_tokens}
use Rattle.xdr_listing.proofs.json_listing.push_constants.Given as goal

abbrev pub invariant-loop-constant : goal.invariant-loop-constant
invariant-loop-constant l =
    l.out ≡ l.initial.out ++ flat_map constant_tokens (map constant_of (take l.constant-index l.constants))
