use Rattle.std.proofs.Common.{rules}
use Rattle.std.specs.Cmp.Derive.Mapped.{pointwise-map}
use Rattle.xdr_types.proofs.kind.KindPartialEq.eq.Goals as goal

pub returns-in-Numbered-Numbered : goal.returns-in-Numbered-Numbered
returns-in-Numbered-Numbered c = search (rules, pointwise-map)

pub returns-in-Structure-Structure : goal.returns-in-Structure-Structure
returns-in-Structure-Structure c = search (rules, pointwise-map)

pub returns-then-eq-4 : goal.returns-then-eq-4
returns-then-eq-4 c = search (rules, pointwise-map)

pub returns-else-eq-4 : goal.returns-else-eq-4
returns-else-eq-4 c = search (rules, pointwise-map)
