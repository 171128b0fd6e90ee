use Rattle.std.proofs.Common.{rules}
use Rattle.std.specs.Cmp.Derive.Mapped.{pointwise-map}
use Rattle.xdr_types.proofs.schema.SchemaPartialEq.eq.Goals as goal

pub returns-then-eq : goal.returns-then-eq
returns-then-eq c = search (rules, pointwise-map)

pub returns-else-eq : goal.returns-else-eq
returns-else-eq c = search (rules, pointwise-map)
