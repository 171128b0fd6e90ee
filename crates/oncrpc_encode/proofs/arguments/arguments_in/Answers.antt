-- So many items, or none.
use Rattle.oncrpc_encode.proofs.Arguing.{listed, unlisted}
use Rattle.oncrpc_encode.proofs.arguments.arguments_in.Goals as goal

pub encoded_items-requires-clause-counted : goal.encoded_items-requires-clause-counted
encoded_items-requires-clause-counted c =
    rw c.deref.ensures.value (listed c.args.text.now c.args.kinds.now c.in_ok-items.field-0 c.in-Some.items c.in-Some.is
    c.in_ok-items.ensures.found)

pub returns-in-None-clause-right : goal.returns-in-None-clause-right
returns-in-None-clause-right c = (
  c.requires.short,
  unlisted c.args.text.now c.args.kinds.now c.in_ok-items.field-0 c.in-None.is
      c.in_ok-items.ensures.none,
)
