use Rattle.std.proofs.Common.{◌≡◌, ◌++◌, drop, map}
use Rattle.xdr_types.specs.KindViews.{name_of}
use Rattle.xdr_types.specs.Named.{named}
use Rattle.xdr_types.proofs.basic.names_of.Given as goal

abbrev pub invariant-loop-row : goal.invariant-loop-row
invariant-loop-row l = map name_of l.names.items ++ map (λ r. named r.0.now r.1) (drop l.row-index l.rows)
    ≡ map (λ r. named r.0.now r.1) l.rows
