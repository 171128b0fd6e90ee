use Rattle.std.proofs.Common.{◌^◌, ◌≡◌, drop, map}
use Rattle.std.specs.List.{list_any}
use Rattle.xdr_types.specs.Kinds.{Constant}
use Rattle.xdr_types.specs.KindViews.{constant_of}
use Rattle.xdr_types.specs.Fits.{is_signed}
use Rattle.xdr_types.proofs.empty.has_member.Given as goal

abbrev pub invariant-loop-member : goal.invariant-loop-member
invariant-loop-member l = list_any (λ (c : Constant). is_signed (2 ^ 31) c.number)
    (map constant_of (drop l.member-index l.member-items)) ≡ list_any (λ (c : Constant). is_signed (2 ^ 31) c.number)
    (map constant_of l.member-items)
