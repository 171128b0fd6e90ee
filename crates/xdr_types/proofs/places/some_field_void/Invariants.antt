use Rattle.std.proofs.Common.{◌≡◌, drop, map}
use Rattle.std.specs.List.{list_any}
use Rattle.xdr_types.specs.Kinds.{Part}
use Rattle.xdr_types.specs.KindViews.{kind_view, part_of_member}
use Rattle.xdr_types.specs.Faults.{is_void}
use Rattle.xdr_types.proofs.places.some_field_void.Given as goal

abbrev pub invariant-loop-field : goal.invariant-loop-field
invariant-loop-field l = list_any (λ (p : Part). is_void (map kind_view l.kinds.items) p.kind)
    (map part_of_member (drop l.field-index l.field-items)) ≡ list_any
    (λ (p : Part). is_void (map kind_view l.kinds.items) p.kind) (map part_of_member l.field-items)
