use Rattle.std.proofs.Common.{◌≡◌, drop, map, string_bytes}
use Rattle.std.specs.Str.{bytes_eq}
use Rattle.std.specs.List.{list_any}
use Rattle.xdr_types.specs.Kinds.{Constant}
use Rattle.xdr_types.specs.KindViews.{constant_of}
use Rattle.xdr_types.proofs.twice.names_constant.Given as goal

abbrev pub invariant-loop-member : goal.invariant-loop-member
invariant-loop-member l = list_any (λ (d : Constant). bytes_eq (string_bytes l.name) d.name)
    (map constant_of (drop l.member-index l.members)) ≡ list_any
    (λ (d : Constant). bytes_eq (string_bytes l.name) d.name) (map constant_of l.members)
