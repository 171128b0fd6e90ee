use Rattle.oncrpc_encode.specs.Arguments.{places_of}
use Rattle.oncrpc_encode.proofs.Each.{Tells}
use Rattle.oncrpc_encode.proofs.arguments.encoded_items.Given as goal

abbrev pub invariant-loop-number : goal.invariant-loop-number
invariant-loop-number l =
    Tells (record { kinds = l.schema.kinds; places = places_of l.kinds; limits = l.limits }) l.text l.kinds l.items
    l.number l.all.items
