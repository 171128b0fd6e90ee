use Rattle.std.proofs.Common.{◌≡◌, ℤ, drop, map, not}
use Rattle.std.specs.List.{list_any}
use Rattle.xdr_types.specs.Kinds.{kind_at}
use Rattle.xdr_types.specs.KindViews.{kind_view}
use Rattle.xdr_types.specs.Fits.{is_tag_of}
use Rattle.xdr_types.proofs.tags.some_illegal.Given as goal

abbrev pub invariant-loop-case : goal.invariant-loop-case
invariant-loop-case l = list_any (λ (z : ℤ). not (is_tag_of (kind_at (map kind_view l.kinds.items) l.tag.place) z))
    (drop l.case-index l.case-items) ≡ list_any
    (λ (z : ℤ). not (is_tag_of (kind_at (map kind_view l.kinds.items) l.tag.place) z)) l.case-items
