use Rattle.std.proofs.Common.{◌≡◌, drop, map}
use Rattle.std.specs.List.{find}
use Rattle.std.specs.Ordering.{int_eq}
use Rattle.xdr_types.specs.Kinds.{Constant}
use Rattle.xdr_types.specs.KindViews.{constant_of}
use Rattle.xdr_types.proofs.picked.member_in_turn.Given as goal

abbrev pub invariant-loop-member : goal.invariant-loop-member
invariant-loop-member l =
    find (λ (c : Constant). int_eq c.number l.number) (map constant_of (drop l.member-index l.member-items))
    ≡ find (λ (c : Constant). int_eq c.number l.number) (map constant_of l.member-items)
