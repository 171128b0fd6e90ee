use Rattle.std.proofs.Common.{◌≡◌, ℤ, drop, map}
use Rattle.std.specs.Option.{option_or}
use Rattle.xdr_types.specs.Private.Lookups.{first_at}
use Rattle.xdr_types.specs.KindViews.{constant_of}
use Rattle.xdr_types.specs.Private.Lookups.{member_from}
use Rattle.xdr_types.proofs.lookups.members_by_number.Given as goal

abbrev pub invariant-loop-index : goal.invariant-loop-index
invariant-loop-index l =
    (z : ℤ) → option_or (first_at l.found.items z) (member_from l.index (map constant_of (drop l.index l.members)) z)
    ≡ member_from 0 (map constant_of l.members) z
