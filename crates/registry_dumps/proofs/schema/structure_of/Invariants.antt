use Rattle.std.proofs.Common.{◌≡◌, ◌++◌, drop, map}
use Rattle.xdr_types.specs.KindViews.{part_of_member}
use Rattle.xdr_types.specs.Named.{named}
use Rattle.registry_dumps.proofs.schema.structure_of.Given as goal

abbrev pub invariant-loop-row : goal.invariant-loop-row
invariant-loop-row l = map part_of_member l.fields.items ++ map (λ r. named r.0.now r.1) (drop l.row-index l.rows)
    ≡ map (λ r. named r.0.now r.1) l.rows
