use Rattle.std.proofs.Common.{◌≡◌, drop, map, string_bytes}
use Rattle.std.specs.Str.{bytes_eq}
use Rattle.std.specs.List.{list_any}
use Rattle.xdr_types.specs.Kinds.{Part}
use Rattle.xdr_types.specs.KindViews.{part_of_member}
use Rattle.xdr_types.proofs.twice.names_field.Given as goal

abbrev pub invariant-loop-field : goal.invariant-loop-field
invariant-loop-field l = list_any (λ (q : Part). bytes_eq (string_bytes l.name) q.name)
    (map part_of_member (drop l.field-index l.fields)) ≡ list_any (λ (q : Part). bytes_eq (string_bytes l.name) q.name)
    (map part_of_member l.fields)
