-- The parts that are lent are those of the value that begins the input.
use Rattle.xdr_show.proofs.Parts.{are_parts, lent_by_parts}
use Rattle.xdr_show.proofs.lent.show_bytes.Goals as goal

pub show_parts-requires : goal.show_parts-requires
show_parts-requires c =
    rw c.deref.ensures.value
    (lent_by_parts c.args.schema.now.kinds c.args.kind.place c.args.limits c.args.input.now _ c.in-Ok.ensures.outcome
    c.in-Ok.ensures.lent)

pub returns-in-Ok-show_parts-clause-lines : goal.returns-in-Ok-show_parts-clause-lines
returns-in-Ok-show_parts-clause-lines c =
    let kinds = c.args.schema.now.kinds in
    let place = c.args.kind.place in
    let input = c.args.input.now in
    let h = c.in-Ok.ensures.outcome in (
      h.0,
      h.1,
      h.2,
      c.in-Ok-show_parts.ensures place h.0 input
          (rw c.deref.ensures.value (are_parts kinds place c.args.limits input h.0 h.1 _ h.2 h.3 c.in-Ok.ensures.lent)),
    )
