use Rattle.std.proofs.Common.{◌≡◌, ℤ, drop, map, not}
use Rattle.std.specs.List.{list_any}
use Rattle.xdr_types.specs.Kinds.{Branch, kind_at}
use Rattle.xdr_types.specs.KindViews.{kind_view, branch_of}
use Rattle.xdr_types.specs.Fits.{is_tag_of}
use Rattle.xdr_types.proofs.tags.some_arm_illegal.Given as goal

abbrev pub invariant-loop-arm : goal.invariant-loop-arm
invariant-loop-arm l = list_any (λ (a : Branch). list_any
    (λ (z : ℤ). not (is_tag_of (kind_at (map kind_view l.kinds.items) l.tag.place) z)) a.cases)
    (map branch_of (drop l.arm-index l.arm-items)) ≡ list_any (λ (a : Branch). list_any
    (λ (z : ℤ). not (is_tag_of (kind_at (map kind_view l.kinds.items) l.tag.place) z)) a.cases)
    (map branch_of l.arm-items)
