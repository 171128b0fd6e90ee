use Rattle.std.proofs.Common.{◌≡◌, drop, map, string_bytes}
use Rattle.std.specs.Str.{bytes_eq}
use Rattle.std.specs.List.{list_any}
use Rattle.xdr_types.specs.Kinds.{Part}
use Rattle.xdr_types.specs.KindViews.{name_of}
use Rattle.xdr_types.proofs.names.is_named.Given as goal

abbrev pub invariant-loop-entry : goal.invariant-loop-entry
invariant-loop-entry l = list_any (λ (p : Part). bytes_eq p.name (string_bytes l.name))
    (map name_of (drop l.entry-index l.names)) ≡ list_any (λ (p : Part). bytes_eq p.name (string_bytes l.name))
    (map name_of l.names)
