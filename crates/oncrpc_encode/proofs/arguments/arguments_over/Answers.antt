-- All of a text that is not too long was read.
use Rattle.std.proofs.Common.{arith}
use Rattle.oncrpc_encode.specs.Arguments.{places_of}
use Rattle.oncrpc_encode.proofs.Arguing.{answer_each}
use Rattle.oncrpc_encode.proofs.arguments.arguments_over.Goals as goal

pub returns-clause-right : goal.returns-clause-right
returns-clause-right g c =
    answer_each (record {
      kinds = c.args.schema.now.kinds;
      places = places_of c.args.kinds.now;
      limits = c.args.limits;
    }) _ _ c.in_ok-text.text.items c.arguments_in.result c.in_ok-text.ensures.read.bytes
    (c.in_ok-text.ensures.read.end (omega (arith, c.in_ok-text.text.ok.0)))
    (rw c.deref.ensures.value at c.arguments_in.ensures.right)
