use Rattle.xdr_parts.proofs.Judging.{spelled, all_of_first}
use Rattle.xdr_parts.proofs.whole.whole_parts.Goals as goal

pub spelled_parts-requires : goal.spelled_parts-requires
spelled_parts-requires c =
    let o = c.in_ok-used.ensures.whole in (
      o.0,
      spelled c.args.schema.now c.len-known.ensures.well_formed c.len-known.ensures.sound c.args.kind.place
          c.args.limits c.args.input.now o.0 c.in_ok-used.used c.depth-in_range.ensures.range o.1,
    )

pub returns-in-Ok-clause-whole : goal.returns-in-Ok-clause-whole
returns-in-Ok-clause-whole c =
    let o = c.in_ok-used.ensures.whole in (
      o.0,
      o.1,
      all_of_first c.in_ok-used.used c.args.input.now _ _
          (c.in-Ok.ensures.parts o.0
          (spelled c.args.schema.now c.len-known.ensures.well_formed c.len-known.ensures.sound c.args.kind.place
          c.args.limits c.args.input.now o.0 c.in_ok-used.used c.depth-in_range.ensures.range o.1)),
    )
