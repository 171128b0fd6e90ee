use Rattle.xdr_bounds.proofs.Joined.{are_ranges}
use Rattle.xdr_bounds.proofs.bounds.Bounds.of.Goals as goal

pub returns : goal.returns
returns c =
    let kinds = c.args.schema.now.kinds in
    are_ranges kinds c.in_ok-shapes.shapes.items c.in_ok-least.least.items c.in_ok-greatest.greatest.items
    c.in_ok-ranges.ranges.items c.in_ok-shapes.ensures
    (record {
      valued = c.len-kinds.ensures.valued;
      known = c.len-kinds.ensures.known;
      higher =
          c.len-kinds.ensures.higher;
    })
    c.in_ok-least.ensures.all (λ place. c.in_ok-least.ensures.least kinds place c.in_ok-shapes.ensures)
    c.in_ok-greatest.ensures c.in_ok-ranges.ensures
