use Rattle.std.proofs.Common.{◌≡◌, drop}
use Rattle.oncrpc_encode.specs.Arguments.{knows_each}
use Rattle.oncrpc_encode.proofs.arguments.has_each.Given as goal

abbrev pub invariant-loop-kind : goal.invariant-loop-kind
invariant-loop-kind l = knows_each l.schema.kinds (drop l.kind-index l.kinds) ≡ knows_each l.schema.kinds l.kinds
